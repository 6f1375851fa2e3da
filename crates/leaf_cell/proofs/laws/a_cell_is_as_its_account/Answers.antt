use Rattle.leaf_cell.proofs.TouchActs.{meant-pages, stands-made}
use Rattle.leaf_cell.proofs.SameReads.{present-stands, unjoined-stands, none-stands, alone-stands, leaf-stands}
use Rattle.std.proofs.Common.{sym}
use Rattle.std.specs.Prelude.{not}
use Rattle.kernel_meaning.specs.Leaves.{is_lost, is_joined}
use Rattle.leaf_cell.proofs.laws.a_cell_is_as_its_account.Goals as goal

pub returns : goal.returns
returns c = record {
  pages = λ view account stands. sym (meant-pages view account stands);
  present = present-stands;
  unjoined = unjoined-stands;
  none = none-stands;
  alone = alone-stands;
  leaf = λ view account stands n. (leaf-stands (λ leaf. not (is_lost leaf)) view account stands n, leaf-stands is_joined view account stands n);
  later = λ view account stands made later. stands-made view account made stands later;
}
