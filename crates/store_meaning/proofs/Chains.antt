-- Chains of linked blocks: what a chain is read from, and that one place links one chain.
use Rattle.std.proofs.Common.{◌≡◌, ℕ, List, [], ◌∷◌, refl, sym, ◌∙◌, ap₂, subst, arith}
use Rattle.std.specs.List.{AllByRecursion}
use Rattle.vm_base.specs.FlatMemory.{FlatMemory}
use Rattle.store_meaning.specs.Layout.{word_at}
use Rattle.store_meaning.specs.HeapLayout.{Links}

-- two chains linked from one place are the same
pub Links-same : (memory : FlatMemory) (place : ℕ) (one two : List ℕ) → Links memory place one → Links memory place two → one ≡ two
Links-same memory place [] [] first second = refl
Links-same memory place [] (at ∷ two) first second = absurd (omega (arith, first, second.0, second.1))
Links-same memory place (at ∷ one) [] first second = absurd (omega (arith, first.0, first.1, second))
Links-same memory place (at ∷ one) (other ∷ two) first second =
    let here : other ≡ at = sym second.0 ∙ first.0 in
    ap₂ (λ a l. a ∷ l) (sym here) (Links-same memory at one two first.2 (subst (λ a. Links memory a two) here second.2))

-- a chain is read from the word at its place and from the words of its blocks, and from nothing else
pub Links-kept : (old new : FlatMemory) (place : ℕ) (blocks : List ℕ) → word_at new place ≡ word_at old place
    → AllByRecursion (λ at. word_at new at ≡ word_at old at) blocks → Links old place blocks → Links new place blocks
Links-kept old new place [] same others linked = same ∙ linked
Links-kept old new place (at ∷ blocks) same others linked =
    (same ∙ linked.0, linked.1, Links-kept old new at blocks others.0 others.1 linked.2)

-- a chain with another first word
pub Links-moved : (old new : FlatMemory) (from to : ℕ) (blocks : List ℕ) → word_at new to ≡ word_at old from
    → AllByRecursion (λ at. word_at new at ≡ word_at old at) blocks → Links old from blocks → Links new to blocks
Links-moved old new from to [] same others linked = same ∙ linked
Links-moved old new from to (at ∷ blocks) same others linked =
    (same ∙ linked.0, linked.1, Links-kept old new at blocks others.0 others.1 linked.2)
