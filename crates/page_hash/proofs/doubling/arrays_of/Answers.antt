use Rattle.std.proofs.Common.{◌∙◌, ap}
use Rattle.store_meaning.specs.Layout.{word_at, buckets_field, pairs_field}
use Rattle.store_meaning.specs.HashLayout.{other_array}
use Rattle.vm_base.specs.MemoryState.{MemoryState}
use Rattle.page_hash.proofs.doubling.arrays_of.Goals as goal

pub returns-clause-due : goal.returns-clause-due
returns-clause-due g c store pairs is =
    let one = c.read_word-old.ensures.word ∙ is.table.array in
    record {
      is = is;
      crowded = c.requires.due store pairs is;
      old = one;
      new = c.region_beside.ensures ∙ ap other_array one;
      buckets = c.read_word-buckets.ensures.word ∙ ap (λ (s : MemoryState). word_at s.mem buckets_field) c.read_word-old.ensures.same
          ∙ is.table.buckets;
      counted = c.read_word-pairs.ensures.word
          ∙ ap (λ (s : MemoryState). word_at s.mem pairs_field) (c.read_word-buckets.ensures.same ∙ c.read_word-old.ensures.same)
          ∙ is.table.pairs;
      small = c.read_word-pairs.type_inv;
    }

pub returns-clause-went : goal.returns-clause-went
returns-clause-went g c = g.met.M.Memory.went_on _ _ _ c.read_word-old.ensures.went
    (g.met.M.Memory.went_on _ _ _ c.read_word-buckets.ensures.went c.read_word-pairs.ensures.went)
