-- Which pages of a cell may be written to, page after page for 512 pages.
use Rattle.std.specs.Prelude.{ℕ, Bool, false, List, map, replicate, if◌then◌else◌, slice_index_or}
use Rattle.std.specs.List.{range_with_len}
use Rattle.vm_base.specs.FlatStep.{is_beyond}

-- no page may be written to
abbrev pub none_writable : List Bool
none_writable = replicate 512 false

-- whether a page may be written to
abbrev pub writable_at : List Bool → ℕ → Bool
writable_at writable page = slice_index_or writable page false

-- of n pages those may be written to that pass a test, and of the others those that might before
unfoldable pub with_writable : (ℕ → Bool) → ℕ → ℕ → List Bool → List Bool
with_writable test first n writable = map (λ page. if is_beyond first n page then writable_at writable page else test page) (range_with_len 0 512)

-- none of n pages may be written to, and of the others those that might before
abbrev pub without_writable : ℕ → ℕ → List Bool → List Bool
without_writable first n writable = with_writable (λ page. false) first n writable
