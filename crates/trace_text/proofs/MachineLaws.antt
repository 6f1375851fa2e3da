-- The machine's line is read as it is spelled, and spelled as it is read.
use Rattle.std.proofs.Common.{◌≡◌, ℕ, ◌≤◌, true, ◌&&◌, cond, leb, List, ◌∷◌, ◌++◌, codes, Option, Some, None, refl, sym, ap, subst, ◌∙◌, append_assoc, arith, inl, inr}
use Rattle.std.specs.Fmt.{decimal}
use Rattle.std.specs.Str.{bytes_eq}
use Rattle.std.proofs.lemmas.Bool.{le-leb, leb-true, and_parts}
use Rattle.trace_text.specs.declared.machine.Machine.{Machine}
use Rattle.trace_text.specs.ScriptGrammar.{IsMachineLine}
use Rattle.trace_text.specs.ScriptReading.{parts_at, count_of, machine_by, machine_fields, spelled_machine, is_machine}
use Rattle.trace_text.proofs.Digits.{base_10}
use Rattle.trace_text.proofs.Parts.{parts_at_again, parts_at_takes, parts_at_lacks, with_parts}
use Rattle.trace_text.proofs.Steps.{bind_some, guard_some, only_if_some, some_is}
use Rattle.trace_text.proofs.NumberLaws.{number_lacks}
use Rattle.trace_text.proofs.TokenLaws.{same_bytes, count_takes, count_again}

-- ---- bounds

-- so many frames and slots may be
pub record IsWithin (frames cells : ℕ) : Type 0 where
  pub few_frames : 8 ≤ frames
  pub many_frames : frames ≤ 65536
  pub few_cells : 1 ≤ cells
  pub many_cells : cells ≤ 512

within_true : (m : Machine) → is_machine m ≡ true → IsWithin m.frames m.cells
within_true m e =
    let a = and_parts (leb 8 m.frames && leb m.frames 65536 && leb 1 m.cells) (leb m.cells 512) e in
    let b = and_parts (leb 8 m.frames && leb m.frames 65536) (leb 1 m.cells) a.0 in
    let f = and_parts (leb 8 m.frames) (leb m.frames 65536) b.0 in
    record {
      few_frames = leb-true 8 m.frames f.0;
      many_frames = leb-true m.frames 65536 f.1;
      few_cells = leb-true 1 m.cells b.1;
      many_cells = leb-true m.cells 512 a.1;
    }

true_within : (m : Machine) → IsWithin m.frames m.cells → is_machine m ≡ true
true_within m h =
    rw (le-leb 8 m.frames h.few_frames, le-leb m.frames 65536 h.many_frames, le-leb 1 m.cells h.few_cells, le-leb m.cells 512 h.many_cells) refl

-- ---- what was read was spelled so

-- a line of frames and slots, field by field
abbrev long_line : ℕ → ℕ → List ℕ
long_line frames cells = codes "machine " ++ (decimal frames ++ 32 ∷ decimal cells)

long_line-nested : (frames cells : ℕ) → codes "machine " ++ decimal frames ++ codes " " ++ decimal cells ≡ long_line frames cells
long_line-nested frames cells = simp append_assoc

by_takes : (fields : List ℕ) (m : Machine) (r : Option (List ℕ × List ℕ)) → parts_at 32 fields ≡ r → machine_by fields r ≡ Some m → IsMachineLine (codes "machine " ++ fields) m.frames m.cells
by_takes fields m None is h =
    let frames = bind_some (count_of fields) _ m h in
    let same = some_is (record { frames = frames.0; cells = 256 }) m frames.2 in
    subst (λ (n : Machine). IsMachineLine (codes "machine " ++ fields) n.frames n.cells) same
    (inr (ap (λ (digits : List ℕ). codes "machine " ++ digits) (count_takes fields frames.0 frames.1), refl))
by_takes fields m (Some parts) is h =
    let frames = bind_some (count_of parts.0) _ m h in
    let cells = bind_some (count_of parts.1) _ m frames.2 in
    let same = some_is (record { frames = frames.0; cells = cells.0 }) m cells.2 in
    let whole = with_parts 32 fields parts.0 parts.1 _ _ (parts_at_takes 32 fields parts is) (count_takes parts.0 frames.0 frames.1) (count_takes parts.1 cells.0 cells.1) in
    subst (λ (n : Machine). IsMachineLine (codes "machine " ++ fields) n.frames n.cells) same
    (inl (ap (λ (line : List ℕ). codes "machine " ++ line) whole ∙ sym (long_line-nested frames.0 cells.0)))

-- the line is the machine's, with frames and slots within their bounds
pub record IsMachine (line : List ℕ) (m : Machine) : Type 0 where
  pub spelled : IsMachineLine line m.frames m.cells
  pub within : IsWithin m.frames m.cells

pub spelled_machine_takes : (line : List ℕ) (m : Machine) → spelled_machine line ≡ Some m → IsMachine line m
unfolding spelled_machine machine_fields
spelled_machine_takes line m h =
    let parts = bind_some (parts_at 32 line) _ m h in
    let read = bind_some (cond (bytes_eq parts.0.0 (codes "machine")) (machine_fields parts.0.1) None) _ m parts.2 in
    let word = guard_some (bytes_eq parts.0.0 (codes "machine")) (machine_fields parts.0.1) read.0 read.1 in
    let g = only_if_some (is_machine read.0) read.0 m read.2 in
    let whole : line ≡ codes "machine " ++ parts.0.1 =
    parts_at_takes 32 line parts.0 parts.1 ∙ ap (λ (w : List ℕ). w ++ 32 ∷ parts.0.1) (same_bytes parts.0.0 (codes "machine") word.0) in
    subst (IsMachine line) g.1 (record {
      spelled = subst (λ (l : List ℕ). IsMachineLine l read.0.frames read.0.cells) (sym whole) (by_takes parts.0.1 read.0 (parts_at 32 parts.0.1) refl word.1);
      within = within_true read.0 g.0;
    })

-- ---- what was spelled is read again

fields_long : (frames cells : ℕ) → IsWithin frames cells → machine_fields (decimal frames ++ 32 ∷ decimal cells) ≡ Some (record { frames = frames; cells = cells })
unfolding machine_fields
fields_long frames cells h =
    let many = h.many_frames in
    let slots = h.many_cells in
    let parts = parts_at_again 32 (decimal frames) (decimal cells) (number_lacks 32 10 frames refl base_10 (omega arith)) in
    rw (parts, count_again frames (omega arith), count_again cells (omega arith)) refl

fields_short : (frames : ℕ) → frames ≤ 65536 → machine_fields (decimal frames) ≡ Some (record { frames = frames; cells = 256 })
unfolding machine_fields
fields_short frames many =
    let parts = parts_at_lacks 32 (decimal frames) (number_lacks 32 10 frames refl base_10 (omega arith)) in
    rw (parts, count_again frames (omega arith)) refl

by_fields : (fields : List ℕ) (m : Machine) → machine_fields fields ≡ Some m → IsWithin m.frames m.cells → spelled_machine (codes "machine " ++ fields) ≡ Some m
unfolding spelled_machine
by_fields fields m read h = rw (read, true_within m h) refl

pub spelled_machine_again : (line : List ℕ) (frames cells : ℕ) → IsMachineLine line frames cells → IsWithin frames cells → spelled_machine line ≡ Some (record { frames = frames; cells = cells })
spelled_machine_again line frames cells (inl long) h =
    ap spelled_machine (long ∙ long_line-nested frames cells)
    ∙ by_fields (decimal frames ++ 32 ∷ decimal cells) (record { frames = frames; cells = cells }) (fields_long frames cells h) h
spelled_machine_again line frames cells (inr short) h =
    let read : machine_fields (decimal frames) ≡ Some (record { frames = frames; cells = cells }) =
    fields_short frames h.many_frames ∙ ap (λ (n : ℕ). Some (record { frames = frames; cells = n })) (sym short.1) in
    ap spelled_machine short.0 ∙ by_fields (decimal frames) (record { frames = frames; cells = cells }) read h
