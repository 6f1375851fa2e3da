use Rattle.std.proofs.Common.{◌≡◌, [], sym, ◌∙◌, ap, subst, arith}
use Rattle.byteorder.specs.Endian.{big_bytes}
use Rattle.vm_base.specs.MemoryState.{IsKept}
use Rattle.vm_base.specs.MemoryCalls.{after_store}
use Rattle.vm_base.proofs.IsKeptOn.{IsKept-on}
use Rattle.store_meaning.specs.Layout.{list_field, word_at}
use Rattle.store_meaning.specs.HeapLayout.{IsHeap, freed}
use Rattle.store_meaning.proofs.Lists.{class_within}
use Rattle.page_heap.specs.HeapCalls.{free_store}
use Rattle.page_heap.proofs.Plans.{use_within, frees}
use Rattle.page_heap.proofs.blocks.free.Goals as goal

pub list_field_of-requires : goal.list_field_of-requires
list_field_of-requires g c =
    class_within c.args.class
    (use_within (g.M.Memory.state c.args.m.now).mem c.requires.used.heap c.args.addr c.args.class c.requires.used.is c.requires.used.used).0

pub store_word-requires-clause-within : goal.store_word-requires-clause-within
store_word-requires-clause-within g c =
    let within =
    use_within
    (g.M.Memory.state c.args.m.now).mem c.requires.used.heap c.args.addr c.args.class c.requires.used.is c.requires.used.used in
    omega (arith, within.1.1)

pub list_field_of-requires-2 : goal.list_field_of-requires-2
list_field_of-requires-2 g c =
    class_within c.args.class
    (use_within (g.M.Memory.state c.args.m.now).mem c.requires.used.heap c.args.addr c.args.class c.requires.used.is c.requires.used.used).0

pub returns-clause-heap : goal.returns-clause-heap
returns-clause-heap g c heap is used =
    let state = g.M.Memory.state c.args.m.now in
    let word : c.read_word-first.result ≡ word_at state.mem (list_field c.args.class) =
    c.read_word-first.ensures.word ∙ ap (word_at state.mem) c.list_field_of.ensures in
    let first : g.M.Memory.state c.store_word.new.m
    ≡ after_store state c.args.addr (big_bytes 8 (word_at state.mem (list_field c.args.class))) =
    c.store_word.ensures.stored ∙ ap (λ s. after_store s c.args.addr (big_bytes 8 c.read_word-first.result)) c.read_word-first.ensures.same
    ∙ ap (λ w. after_store state c.args.addr (big_bytes 8 w)) word in
    let stored : g.M.Memory.state c.store_word-2.new.m ≡ free_store state c.args.addr c.args.class =
    c.store_word-2.ensures.stored
    ∙ ap (λ a. after_store (g.M.Memory.state c.store_word.new.m) a (big_bytes 8 c.args.addr)) c.list_field_of-2.ensures
    ∙ ap (λ s. after_store s (list_field c.args.class) (big_bytes 8 c.args.addr)) first in
    subst (λ s. IsHeap s.mem (freed heap c.args.addr c.args.class)) (sym stored)
    (frees state heap c.args.addr c.args.class c.read_word-first.ensures.sound is used c.requires.header c.requires.block)

pub returns-clause-keeps : goal.returns-clause-keeps
returns-clause-keeps g c =
    subst (λ s. IsKept s (g.M.Memory.state c.store_word-2.new.m) []) c.read_word-first.ensures.same
    (IsKept-on _ _ _ [] [] [] c.store_word.ensures.keeps c.store_word-2.ensures.keeps (λ cell is. is) (λ cell is. is))

pub returns-clause-went : goal.returns-clause-went
returns-clause-went g c = g.met.M.Memory.went_on _ _ _ c.read_word-first.ensures.went
    (g.met.M.Memory.went_on _ _ _ c.store_word.ensures.went c.store_word-2.ensures.went)
