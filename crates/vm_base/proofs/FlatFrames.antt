-- How many frames a memory takes: never fewer with more pages.
use Rattle.std.proofs.Common.{◌≡◌, ℕ, eqb, List, [], ◌∷◌, refl, sym, ◌∙◌, ap, arith}
use Rattle.std.specs.Prelude.{◌||◌, ◌==◌}
use Rattle.std.specs.List.{list_any}
use Rattle.std.proofs.lemmas.Bool.Decides.{nat_tests}
use Rattle.vm_base.specs.Places.{page_of, page_count}
use Rattle.vm_base.specs.FlatLaws.{HasNumbersOf, MorePagesTakeMoreFrames, TouchesTakeNoFrameAway, MoreCellsTakeMoreTables, MoreNumbersAreMoreDistinct, PagesTakeFrames}
use Rattle.vm_base.proofs.OwnFrames.{member, AreMembers, own-fewer, own-touched, directory_frames-le, length-distinct-le, pages-own}

-- the two tests for a number of a list are one
member-listed : (q : ℕ) (xs : List ℕ) → member q xs ≡ list_any (λ other. other == q) xs
member-listed q [] = refl
member-listed q (x ∷ xs) =
    let same : eqb q x ≡ (x == q) = grind (arith, nat_tests) in
    ap (λ b. b || member q xs) same ∙ ap (λ b. (x == q) || b) (member-listed q xs)

pub members_from_listed : (small large : List ℕ) → HasNumbersOf large small → AreMembers small large
members_from_listed small large has q there = member-listed q large ∙ has q (sym (member-listed q small) ∙ there)

pub own-more : MorePagesTakeMoreFrames
own-more small large has = own-fewer small large has

pub own-touched_range : TouchesTakeNoFrameAway
own-touched_range memory address n = own-touched memory (page_of address) (page_count address n)

pub directory_frames-more : MoreCellsTakeMoreTables
directory_frames-more small large has = directory_frames-le small large (members_from_listed small large has)

pub distinct-more : MoreNumbersAreMoreDistinct
distinct-more small large has = length-distinct-le small large (members_from_listed small large has)

pub own-pages : PagesTakeFrames
own-pages memory = pages-own memory
