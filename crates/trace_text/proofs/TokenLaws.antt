-- Tokens are read as they are spelled, and spelled as they are read: two laws for each kind of token.
use Rattle.std.proofs.Common.{◌≡◌, ℕ, ◌*◌, ◌/◌, ◌%◌, ◌^◌, ◌<◌, Bool, true, false, cond, ◌==◌, eqb, ltb, List, ◌∷◌, ◌++◌, codes, Some, refl, ap, ◌∙◌, arith, ◌⊎◌, inl, inr}
use Rattle.std.specs.Fmt.{decimal}
use Rattle.std.specs.Str.{bytes_eq}
use Rattle.std.proofs.lemmas.Bool.{eq-eqb, eqb-true, lt-ltb}
use Rattle.std.proofs.lemmas.Slice.Eq.{bytes_eq-Decides}
use Rattle.vm_base.specs.declared.permission.Perm.{Perm}
use Rattle.vm_base.specs.declared.permission.Perm.TheVariants.{ReadWrite as read_write, Read as read_only}
use Rattle.vm_base.specs.declared.fork_mode.Mode.{Mode}
use Rattle.vm_base.specs.declared.fork_mode.Mode.TheVariants.{Eager, OnDemand, Async}
use Rattle.trace_text.specs.ScriptGrammar.{hexadecimal, perm_text, mode_text}
use Rattle.trace_text.specs.ScriptReading.{parts_at, spelled_number, count_of, perm_of, mode_of, page_at, range_of}
use Rattle.trace_text.proofs.Digits.{base_10, base_16}
use Rattle.trace_text.proofs.Parts.{parts_at_again, parts_at_takes}
use Rattle.trace_text.proofs.Steps.{bind_some, only_if_some, some_is}
use Rattle.trace_text.proofs.NumberLaws.{spelled_number_again, spelled_number_takes, number_lacks}

-- ---- words

-- a choice that gave this answer
pub chosen : {A : Type 0} (b : Bool) (x y z : A) → cond b x y ≡ z → ((b ≡ true) × (x ≡ z)) ⊎ ((b ≡ false) × (y ≡ z))
chosen true x y z e = inl (refl, e)
chosen false x y z e = inr (refl, e)

-- bytes that are equal by the test are equal
pub same_bytes : (xs ys : List ℕ) → bytes_eq xs ys ≡ true → xs ≡ ys
same_bytes xs ys e = (bytes_eq-Decides xs ys).0 e

pub perm_takes : (token : List ℕ) (perm : Perm) → perm_of token ≡ Some perm → token ≡ perm_text perm
unfolding perm_of
perm_takes token perm e =
    elim (chosen (bytes_eq token (codes "r")) (Some read_only) _ (Some perm) e) [
      | inl one ↦ same_bytes token (codes "r") one.0 ∙ ap perm_text (some_is read_only perm one.1)
      | inr two ↦
          let g = only_if_some (bytes_eq token (codes "rw")) read_write perm two.1 in
          same_bytes token (codes "rw") g.0 ∙ ap perm_text g.1
    ]

pub perm_again : (perm : Perm) → perm_of (perm_text perm) ≡ Some perm
unfolding perm_of
perm_again read_only = refl
perm_again read_write = refl

pub mode_takes : (token : List ℕ) (mode : Mode) → mode_of token ≡ Some mode → token ≡ mode_text mode
unfolding mode_of
mode_takes token mode e =
    elim (chosen (bytes_eq token (codes "eager")) (Some Eager) _ (Some mode) e) [
      | inl one ↦ same_bytes token (codes "eager") one.0 ∙ ap mode_text (some_is Eager mode one.1)
      | inr others ↦ elim (chosen (bytes_eq token (codes "ondemand")) (Some OnDemand) _ (Some mode) others.1) [
        | inl two ↦ same_bytes token (codes "ondemand") two.0 ∙ ap mode_text (some_is OnDemand mode two.1)
        | inr three ↦
            let g = only_if_some (bytes_eq token (codes "async")) Async mode three.1 in
            same_bytes token (codes "async") g.0 ∙ ap mode_text g.1
      ]
    ]

pub mode_again : (mode : Mode) → mode_of (mode_text mode) ≡ Some mode
unfolding mode_of
mode_again Eager = refl
mode_again OnDemand = refl
mode_again Async = refl

-- ---- numbers

pub page_takes : (token : List ℕ) (page : ℕ) → page_at token ≡ Some page → token ≡ hexadecimal (page * 4096)
unfolding page_at
page_takes token page e =
    let b = bind_some (spelled_number 16 token) _ page e in
    let g = only_if_some (b.0 % 4096 == 0) (b.0 / 4096) page b.2 in
    let whole = eqb-true (b.0 % 4096) 0 g.0 in
    let quotient = g.1 in
    let address : b.0 ≡ page * 4096 = omega arith in
    (spelled_number_takes 16 token b.0 base_16 b.1).spelled ∙ ap hexadecimal address

pub page_again : (page : ℕ) → page < 2 ^ 36 → page_at (hexadecimal (page * 4096)) ≡ Some page
unfolding page_at
page_again page small =
    let read = spelled_number_again 16 (page * 4096) base_16 (omega arith) in
    let whole : eqb (page * 4096 % 4096) 0 ≡ true = eq-eqb _ 0 (omega arith) in
    let quotient : page * 4096 / 4096 ≡ page = omega arith in
    rw (read, whole, quotient) refl

pub count_takes : (token : List ℕ) (n : ℕ) → count_of token ≡ Some n → token ≡ decimal n
unfolding count_of
count_takes token n e =
    let b = bind_some (spelled_number 10 token) _ n e in
    let g = only_if_some (ltb b.0 (2 ^ 32)) b.0 n b.2 in
    (spelled_number_takes 10 token b.0 base_10 b.1).spelled ∙ ap decimal g.1

pub count_again : (n : ℕ) → n < 2 ^ 32 → count_of (decimal n) ≡ Some n
unfolding count_of
count_again n small = rw (spelled_number_again 10 n base_10 (omega arith), lt-ltb n (2 ^ 32) small) refl

-- the two fields of a range
abbrev pub range_fields : ℕ → ℕ → List ℕ
range_fields addr len = hexadecimal addr ++ 32 ∷ decimal len

pub range_takes : (fields : List ℕ) (range : ℕ × ℕ) → range_of fields ≡ Some range → fields ≡ range_fields range.0 range.1
unfolding range_of
range_takes fields range e =
    let parts = bind_some (parts_at 32 fields) _ range e in
    let addr = bind_some (spelled_number 16 parts.0.0) _ range parts.2 in
    let len = bind_some (count_of parts.0.1) _ range addr.2 in
    let is = some_is (addr.0, len.0) range len.2 in
    let front = (spelled_number_takes 16 parts.0.0 addr.0 base_16 addr.1).spelled in
    let back = count_takes parts.0.1 len.0 len.1 in
    let spelled : fields ≡ hexadecimal addr.0 ++ 32 ∷ decimal len.0 =
    parts_at_takes 32 fields parts.0 parts.1 ∙ rw (← front, ← back) refl in
    spelled ∙ ap (λ (r : ℕ × ℕ). range_fields r.0 r.1) is

pub range_again : (addr len : ℕ) → addr < 2 ^ 48 → len < 2 ^ 32 → range_of (range_fields addr len) ≡ Some (addr, len)
unfolding range_of
range_again addr len below few =
    let lacks = number_lacks 32 16 addr refl base_16 below in
    rw (parts_at_again 32 (hexadecimal addr) (decimal len) lacks, spelled_number_again 16 addr base_16 below, count_again len few) refl
