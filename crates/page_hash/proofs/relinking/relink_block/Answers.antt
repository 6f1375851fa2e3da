use Rattle.page_hash.proofs.BlockLinks.{block_touch, relinks_block}
use Rattle.page_hash.proofs.relinking.relink_block.Goals as goal

pub store_word-requires-clause-ready : goal.store_word-requires-clause-ready
store_word-requires-clause-ready g c =
    (block_touch _ _ c.touch-present.result c.args.at c.requires.may c.requires.within.0 c.requires.within.1 c.requires.present
    c.touch-present.ensures.touched c.touch-present.ensures.fault).ready

pub returns-clause-linked : goal.returns-clause-linked
returns-clause-linked g c =
    (relinks_block _ _ _ c.args.at c.args.next (block_touch _ _ c.touch-present.result c.args.at c.requires.may c.requires.within.0
    c.requires.within.1 c.requires.present c.touch-present.ensures.touched c.touch-present.ensures.fault)
    c.touch-present.ensures.keeps c.store_word.ensures.keeps c.requires.within.0 c.requires.within.1 c.store_word.ensures.stored).0

pub returns-clause-keeps : goal.returns-clause-keeps
returns-clause-keeps g c =
    (relinks_block _ _ _ c.args.at c.args.next (block_touch _ _ c.touch-present.result c.args.at c.requires.may c.requires.within.0
    c.requires.within.1 c.requires.present c.touch-present.ensures.touched c.touch-present.ensures.fault)
    c.touch-present.ensures.keeps c.store_word.ensures.keeps c.requires.within.0 c.requires.within.1 c.store_word.ensures.stored).1

pub returns-clause-went : goal.returns-clause-went
returns-clause-went g c = g.met.M.Memory.went_on _ _ _ c.touch-present.ensures.went c.store_word.ensures.went
