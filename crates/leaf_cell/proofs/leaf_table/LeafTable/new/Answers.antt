use Rattle.std.proofs.Common.{ℕ, ◌∙◌, ap, sym, subst}
use Rattle.leaf_cell.specs.Places.{IsLeafTable, places_of, writable_of}
use Rattle.std.proofs.lemmas.List.{length-replicate}
use Rattle.leaf_cell.proofs.TableWords.{entries-zeros, places_of-zeros, writable_of-zeros}
use Rattle.leaf_cell.proofs.leaf_table.LeafTable.new.Goals as goal

pub returns : goal.returns
returns c = λ i. record { places = (ap places_of c.requires ∙ places_of-zeros) i; writable = (ap writable_of c.requires ∙ writable_of-zeros) i }

pub invariant_of-result : goal.invariant_of-result
invariant_of-result c = subst IsLeafTable (sym c.requires) (record { size = length-replicate {A = ℕ} 4096 0; entries = entries-zeros })
