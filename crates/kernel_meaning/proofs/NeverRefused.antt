-- The touch of a present page ends as it began: not refused.
use Rattle.std.proofs.Common.{◌≡◌, ◌∙◌, ℕ, List, [], ◌∷◌, refl, sym}
use mathlib.Core.Bool.{true≢false}
use Rattle.std.specs.Prelude.{Bool, true, false, cond, Option, Some, None, IsSome}
use Rattle.kernel_meaning.specs.Requests.{Answer, Yes, No}
use Rattle.kernel_meaning.specs.Leaves.{is_named, is_shared, is_marked}
use Rattle.kernel_meaning.specs.CellActs.{Course, asking, coming_answer, numbers_where, leaf_copy_answered, leaf_copied, leaves_copied, before_change, page_copy_answered, touched_as}
use Rattle.vm_base.specs.declared.frame_request.Want.TheVariants as want

leaf_copy-refused : (n : ℕ) (answer : Answer) (course : Course) → (leaf_copy_answered n answer course).refused ≡ course.refused
leaf_copy-refused n Yes course = refl
leaf_copy-refused n (No at) course = refl

leaves_copied-refused : (ns : List ℕ) (course : Course) → (leaves_copied ns course).refused ≡ course.refused
leaves_copied-refused [] course = refl
leaves_copied-refused (n ∷ ns) course =
    leaves_copied-refused ns (leaf_copied n course) ∙ leaf_copy-refused n (coming_answer course) (asking want.Leaf course)

pub before_change-refused : (course : Course) → (before_change course).refused ≡ course.refused
before_change-refused course =
    let unshared : Course = leaves_copied (numbers_where is_shared course.cell) course in
    leaves_copied-refused (numbers_where is_marked unshared.cell) unshared ∙ leaves_copied-refused (numbers_where is_shared course.cell) course

page_copy-refused : (page version : ℕ) (answer : Answer) (course : Course) → (page_copy_answered page version answer course).refused ≡ course.refused
page_copy-refused page version Yes course = refl
page_copy-refused page version (No at) course = refl

either : (b : Bool) (x y : Course) (r : Option ℕ) → x.refused ≡ r → y.refused ≡ r → (cond b x y).refused ≡ r
either true x y r p q = p
either false x y r p q = q

pub touched_as-refused : (found : Option ℕ) (page : ℕ) (course : Course) → IsSome found → (touched_as found page course).refused ≡ course.refused
touched_as-refused None page course h = absurd (true≢false (sym h))
touched_as-refused (Some version) page course h =
    let changed : Course = before_change course in
    either (is_named changed.cell page version)
    (page_copy_answered page version (coming_answer changed) (asking want.Page changed)) changed course.refused
    (page_copy-refused page version (coming_answer changed) (asking want.Page changed) ∙ before_change-refused course)
    (before_change-refused course)
