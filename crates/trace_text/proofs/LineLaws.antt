-- Lines are read as they are spelled, and spelled as they are read: two laws for each kind of line.
use Rattle.std.proofs.Common.{◌≡◌, ℕ, ◌*◌, ◌^◌, ◌<◌, cond, List, [], ◌∷◌, ◌++◌, codes, Option, Some, None, refl, sym, ap, subst, ◌∙◌, append_assoc, arith, inl, inr}
use Rattle.std.specs.Fmt.{decimal}
use Rattle.std.specs.Str.{bytes_eq}
use Rattle.std.proofs.lemmas.List.Elements.{recursion_from_All}
use Rattle.hex.specs.Hex.{encode_lower}
use Rattle.vm_base.specs.declared.permission.Perm.{Perm}
use Rattle.vm_base.specs.declared.fork_mode.Mode.{Mode}
use Rattle.trace_events.specs.declared.event.Event.{Event}
use Rattle.trace_events.specs.declared.event.Event.TheVariants.{Map, Unmap, Protect, Read, Write, Fill, Fork, Copy, Drop, SnapRead, Frames, ListAreas, Refuse}
use Rattle.trace_events.specs.EventBounds.{IsWithinBounds}
use Rattle.trace_text.specs.ScriptGrammar.{hexadecimal, perm_text, mode_text, range_text, event_line}
use Rattle.trace_text.specs.ScriptReading.{parts_at, spelled_number, count_of, byte_of, bytes_of, perm_of, mode_of, page_at, range_of, spelled_area, map_event, unmap_event, protect_event, read_event, write_event, fill_event, fork_event, copy_event, drop_event, snap_read_event, refuse_event, snapshot_event, word_event, lone_event, event_by, event_of, is_within}
use Rattle.trace_text.proofs.Bounds.{within_true, true_within}
use Rattle.trace_text.proofs.Digits.{base_10, base_16}
use Rattle.trace_text.proofs.Parts.{parts_at_again, parts_at_takes, with_parts}
use Rattle.trace_text.proofs.Steps.{bind_some, only_if_some, some_is}
use Rattle.trace_text.proofs.NumberLaws.{spelled_number_again, spelled_number_takes, number_lacks}
use Rattle.trace_text.proofs.BytesLaws.{byte_takes, byte_again, bytes_of_again, bytes_of_takes}
use Rattle.trace_text.proofs.TokenLaws.{chosen, same_bytes, perm_takes, perm_again, mode_takes, mode_again, page_takes, page_again, count_takes, count_again, range_fields, range_takes, range_again}

-- ---- the line of an event, field by field

-- pages and a permission
abbrev area_fields : ℕ → ℕ → Perm → List ℕ
area_fields first pages perm = hexadecimal (first * 4096) ++ 32 ∷ (decimal pages ++ 32 ∷ perm_text perm)

abbrev line_of : Event → List ℕ
line_of (Map first pages perm) = codes "map " ++ area_fields first pages perm
line_of (Unmap first pages) = codes "unmap " ++ (hexadecimal (first * 4096) ++ 32 ∷ decimal pages)
line_of (Protect first pages perm) = codes "protect " ++ area_fields first pages perm
line_of (Read addr len) = codes "read " ++ range_fields addr len
line_of (Write addr bytes) = codes "write " ++ (hexadecimal addr ++ 32 ∷ encode_lower bytes)
line_of (Fill addr len byte) = codes "fill " ++ (hexadecimal addr ++ 32 ∷ (decimal len ++ 32 ∷ encode_lower (byte ∷ [])))
line_of (Fork number mode) = codes "fork " ++ (decimal number ++ 32 ∷ mode_text mode)
line_of (Copy number cell) = codes "copy " ++ (decimal number ++ 32 ∷ decimal cell)
line_of (Drop number) = codes "drop " ++ decimal number
line_of (SnapRead number addr len) = codes "sread " ++ (decimal number ++ 32 ∷ range_fields addr len)
line_of Frames = codes "frames"
line_of ListAreas = codes "areas"
line_of (Refuse nth) = codes "refuse " ++ decimal nth

event_line-line_of : (e : Event) → event_line e ≡ line_of e
event_line-line_of (Map first pages perm) = simp append_assoc
event_line-line_of (Unmap first pages) = simp append_assoc
event_line-line_of (Protect first pages perm) = simp append_assoc
event_line-line_of (Read addr len) = simp append_assoc
event_line-line_of (Write addr bytes) = simp append_assoc
event_line-line_of (Fill addr len byte) = simp append_assoc
event_line-line_of (Fork number mode) = simp append_assoc
event_line-line_of (Copy number cell) = simp append_assoc
event_line-line_of (Drop number) = refl
event_line-line_of (SnapRead number addr len) =
    let fields = append_assoc (hexadecimal addr) (32 ∷ []) (decimal len) in
    append_assoc (codes "sread " ++ decimal number) (32 ∷ []) (range_text addr len)
    ∙ append_assoc (codes "sread ") (decimal number) (32 ∷ range_text addr len)
    ∙ ap (λ (range : List ℕ). codes "sread " ++ (decimal number ++ 32 ∷ range)) fields
event_line-line_of Frames = refl
event_line-line_of ListAreas = refl
event_line-line_of (Refuse nth) = refl

-- ---- what was read was spelled so

-- a word and the fields behind it are the line of the event
abbrev Spells : List ℕ → List ℕ → Event → Type 0
Spells word fields e = word ++ 32 ∷ fields ≡ line_of e

area_takes : (fields : List ℕ) (a : ℕ × ℕ × Perm) → spelled_area fields ≡ Some a → fields ≡ area_fields a.0 a.1 a.2
unfolding spelled_area
area_takes fields a h =
    let parts = bind_some (parts_at 32 fields) _ a h in
    let others = bind_some (parts_at 32 parts.0.1) _ a parts.2 in
    let first = bind_some (page_at parts.0.0) _ a others.2 in
    let pages = bind_some (spelled_number 10 others.0.0) _ a first.2 in
    let perm = bind_some (perm_of others.0.1) _ a pages.2 in
    let is = some_is (first.0, pages.0, perm.0) a perm.2 in
    let address = page_takes parts.0.0 first.0 first.1 in
    let count = (spelled_number_takes 10 others.0.0 pages.0 base_10 pages.1).spelled in
    let kind = perm_takes others.0.1 perm.0 perm.1 in
    let back = with_parts 32 parts.0.1 others.0.0 others.0.1 _ _ (parts_at_takes 32 parts.0.1 others.0 others.1) count kind in
    let whole = with_parts 32 fields parts.0.0 parts.0.1 _ _ (parts_at_takes 32 fields parts.0 parts.1) address back in
    whole ∙ ap (λ (b : ℕ × ℕ × Perm). area_fields b.0 b.1 b.2) is

map_takes : (fields : List ℕ) (e : Event) → map_event fields ≡ Some e → Spells (codes "map") fields e
unfolding map_event
map_takes fields e h =
    let a = bind_some (spelled_area fields) _ e h in
    ap (λ (line : List ℕ). codes "map " ++ line) (area_takes fields a.0 a.1) ∙ ap line_of (some_is (Map a.0.0 a.0.1 a.0.2) e a.2)

protect_takes : (fields : List ℕ) (e : Event) → protect_event fields ≡ Some e → Spells (codes "protect") fields e
unfolding protect_event
protect_takes fields e h =
    let a = bind_some (spelled_area fields) _ e h in
    ap (λ (line : List ℕ). codes "protect " ++ line) (area_takes fields a.0 a.1) ∙ ap line_of (some_is (Protect a.0.0 a.0.1 a.0.2) e a.2)

unmap_takes : (fields : List ℕ) (e : Event) → unmap_event fields ≡ Some e → Spells (codes "unmap") fields e
unfolding unmap_event
unmap_takes fields e h =
    let parts = bind_some (parts_at 32 fields) _ e h in
    let first = bind_some (page_at parts.0.0) _ e parts.2 in
    let pages = bind_some (spelled_number 10 parts.0.1) _ e first.2 in
    let address = page_takes parts.0.0 first.0 first.1 in
    let count = (spelled_number_takes 10 parts.0.1 pages.0 base_10 pages.1).spelled in
    let whole = with_parts 32 fields parts.0.0 parts.0.1 _ _ (parts_at_takes 32 fields parts.0 parts.1) address count in
    ap (λ (line : List ℕ). codes "unmap " ++ line) whole ∙ ap line_of (some_is (Unmap first.0 pages.0) e pages.2)

read_takes : (fields : List ℕ) (e : Event) → read_event fields ≡ Some e → Spells (codes "read") fields e
unfolding read_event
read_takes fields e h =
    let range = bind_some (range_of fields) _ e h in
    ap (λ (line : List ℕ). codes "read " ++ line) (range_takes fields range.0 range.1) ∙ ap line_of (some_is (Read range.0.0 range.0.1) e range.2)

write_takes : (fields : List ℕ) (e : Event) → write_event fields ≡ Some e → Spells (codes "write") fields e
unfolding write_event
write_takes fields e h =
    let parts = bind_some (parts_at 32 fields) _ e h in
    let addr = bind_some (spelled_number 16 parts.0.0) _ e parts.2 in
    let bytes = bind_some (bytes_of parts.0.1) _ e addr.2 in
    let address = (spelled_number_takes 16 parts.0.0 addr.0 base_16 addr.1).spelled in
    let digits = bytes_of_takes parts.0.1 bytes.0 bytes.1 in
    let whole = with_parts 32 fields parts.0.0 parts.0.1 _ _ (parts_at_takes 32 fields parts.0 parts.1) address digits in
    ap (λ (line : List ℕ). codes "write " ++ line) whole ∙ ap line_of (some_is (Write addr.0 bytes.0) e bytes.2)

fill_takes : (fields : List ℕ) (e : Event) → fill_event fields ≡ Some e → Spells (codes "fill") fields e
unfolding fill_event
fill_takes fields e h =
    let parts = bind_some (parts_at 32 fields) _ e h in
    let others = bind_some (parts_at 32 parts.0.1) _ e parts.2 in
    let addr = bind_some (spelled_number 16 parts.0.0) _ e others.2 in
    let len = bind_some (count_of others.0.0) _ e addr.2 in
    let byte = bind_some (byte_of others.0.1) _ e len.2 in
    let address = (spelled_number_takes 16 parts.0.0 addr.0 base_16 addr.1).spelled in
    let count = count_takes others.0.0 len.0 len.1 in
    let digits = byte_takes others.0.1 byte.0 byte.1 in
    let back = with_parts 32 parts.0.1 others.0.0 others.0.1 _ _ (parts_at_takes 32 parts.0.1 others.0 others.1) count digits in
    let whole = with_parts 32 fields parts.0.0 parts.0.1 _ _ (parts_at_takes 32 fields parts.0 parts.1) address back in
    ap (λ (line : List ℕ). codes "fill " ++ line) whole ∙ ap line_of (some_is (Fill addr.0 len.0 byte.0) e byte.2)

fork_takes : (fields : List ℕ) (e : Event) → fork_event fields ≡ Some e → Spells (codes "fork") fields e
unfolding fork_event
fork_takes fields e h =
    let parts = bind_some (parts_at 32 fields) _ e h in
    let number = bind_some (count_of parts.0.0) _ e parts.2 in
    let mode = bind_some (mode_of parts.0.1) _ e number.2 in
    let whole = with_parts 32 fields parts.0.0 parts.0.1 _ _ (parts_at_takes 32 fields parts.0 parts.1) (count_takes parts.0.0 number.0 number.1) (mode_takes parts.0.1 mode.0 mode.1) in
    ap (λ (line : List ℕ). codes "fork " ++ line) whole ∙ ap line_of (some_is (Fork number.0 mode.0) e mode.2)

copy_takes : (fields : List ℕ) (e : Event) → copy_event fields ≡ Some e → Spells (codes "copy") fields e
unfolding copy_event
copy_takes fields e h =
    let parts = bind_some (parts_at 32 fields) _ e h in
    let number = bind_some (count_of parts.0.0) _ e parts.2 in
    let cell = bind_some (count_of parts.0.1) _ e number.2 in
    let whole = with_parts 32 fields parts.0.0 parts.0.1 _ _ (parts_at_takes 32 fields parts.0 parts.1) (count_takes parts.0.0 number.0 number.1) (count_takes parts.0.1 cell.0 cell.1) in
    ap (λ (line : List ℕ). codes "copy " ++ line) whole ∙ ap line_of (some_is (Copy number.0 cell.0) e cell.2)

drop_takes : (fields : List ℕ) (e : Event) → drop_event fields ≡ Some e → Spells (codes "drop") fields e
unfolding drop_event
drop_takes fields e h =
    let number = bind_some (count_of fields) _ e h in
    ap (λ (line : List ℕ). codes "drop " ++ line) (count_takes fields number.0 number.1) ∙ ap line_of (some_is (Drop number.0) e number.2)

refuse_takes : (fields : List ℕ) (e : Event) → refuse_event fields ≡ Some e → Spells (codes "refuse") fields e
unfolding refuse_event
refuse_takes fields e h =
    let nth = bind_some (count_of fields) _ e h in
    ap (λ (line : List ℕ). codes "refuse " ++ line) (count_takes fields nth.0 nth.1) ∙ ap line_of (some_is (Refuse nth.0) e nth.2)

snap_read_takes : (fields : List ℕ) (e : Event) → snap_read_event fields ≡ Some e → Spells (codes "sread") fields e
unfolding snap_read_event
snap_read_takes fields e h =
    let parts = bind_some (parts_at 32 fields) _ e h in
    let number = bind_some (count_of parts.0.0) _ e parts.2 in
    let range = bind_some (range_of parts.0.1) _ e number.2 in
    let whole = with_parts 32 fields parts.0.0 parts.0.1 _ _ (parts_at_takes 32 fields parts.0 parts.1) (count_takes parts.0.0 number.0 number.1) (range_takes parts.0.1 range.0 range.1) in
    ap (λ (line : List ℕ). codes "sread " ++ line) whole ∙ ap line_of (some_is (SnapRead number.0 range.0.0 range.0.1) e range.2)

-- where a word is not the known one, the next is tried
known_or : (word known fields : List ℕ) (e : Event) (x y : Option Event) → cond (bytes_eq word known) x y ≡ Some e
    → (x ≡ Some e → Spells known fields e) → (y ≡ Some e → Spells word fields e) → Spells word fields e
known_or word known fields e x y h here there =
    elim (chosen (bytes_eq word known) x y (Some e) h) [
      | inl same ↦ ap (λ (w : List ℕ). w ++ 32 ∷ fields) (same_bytes word known same.0) ∙ here same.1
      | inr other ↦ there other.1
    ]

snapshot_takes : (word fields : List ℕ) (e : Event) → snapshot_event word fields ≡ Some e → Spells word fields e
unfolding snapshot_event
snapshot_takes word fields e h =
    known_or word (codes "fork") fields e _ _ h (fork_takes fields e) (λ a.
    known_or word (codes "copy") fields e _ _ a (copy_takes fields e) (λ b.
    known_or word (codes "drop") fields e _ _ b (drop_takes fields e) (λ d.
    known_or word (codes "sread") fields e _ None d (snap_read_takes fields e) (λ none. absurd (cc none)))))

word_takes : (word fields : List ℕ) (e : Event) → word_event word fields ≡ Some e → Spells word fields e
unfolding word_event
word_takes word fields e h =
    known_or word (codes "map") fields e _ _ h (map_takes fields e) (λ a.
    known_or word (codes "unmap") fields e _ _ a (unmap_takes fields e) (λ b.
    known_or word (codes "protect") fields e _ _ b (protect_takes fields e) (λ d.
    known_or word (codes "read") fields e _ _ d (read_takes fields e) (λ f.
    known_or word (codes "write") fields e _ _ f (write_takes fields e) (λ g.
    known_or word (codes "fill") fields e _ _ g (fill_takes fields e) (λ i.
    known_or word (codes "refuse") fields e _ _ i (refuse_takes fields e) (snapshot_takes word fields e)))))))

lone_takes : (line : List ℕ) (e : Event) → lone_event line ≡ Some e → line ≡ line_of e
unfolding lone_event
lone_takes line e h =
    elim (chosen (bytes_eq line (codes "frames")) (Some Frames) _ (Some e) h) [
      | inl one ↦ same_bytes line (codes "frames") one.0 ∙ ap line_of (some_is Frames e one.1)
      | inr two ↦
          let g = only_if_some (bytes_eq line (codes "areas")) ListAreas e two.1 in
          same_bytes line (codes "areas") g.0 ∙ ap line_of g.1
    ]

line_takes : (line : List ℕ) (e : Event) (r : Option (List ℕ × List ℕ)) → parts_at 32 line ≡ r → event_by line r ≡ Some e → line ≡ line_of e
line_takes line e None is h = lone_takes line e h
line_takes line e (Some parts) is h = parts_at_takes 32 line parts is ∙ word_takes parts.0 parts.1 e h

-- the line is that of the event, which lies within its bounds
pub record IsLine (line : List ℕ) (e : Event) : Type 0 where
  pub spelled : line ≡ event_line e
  pub bounds : IsWithinBounds e

pub event_of_takes : (line : List ℕ) (e : Event) → event_of line ≡ Some e → IsLine line e
unfolding event_of
event_of_takes line e h =
    let read = bind_some (event_by line (parts_at 32 line)) _ e h in
    let g = only_if_some (is_within read.0) read.0 e read.2 in
    subst (IsLine line) g.1 (record {
      spelled = line_takes line read.0 (parts_at 32 line) refl read.1 ∙ sym (event_line-line_of read.0);
      bounds = within_true read.0 g.0;
    })

-- ---- what was spelled is read again

area_again : (first pages : ℕ) (perm : Perm) → IsWithinBounds (Map first pages perm) → spelled_area (area_fields first pages perm) ≡ Some (first, pages, perm)
unfolding spelled_area
area_again first pages perm h =
    let few = h.1 in
    let some = h.0 in
    let address = parts_at_again 32 (hexadecimal (first * 4096)) (decimal pages ++ 32 ∷ perm_text perm) (number_lacks 32 16 (first * 4096) refl base_16 (omega arith)) in
    let count = parts_at_again 32 (decimal pages) (perm_text perm) (number_lacks 32 10 pages refl base_10 (omega arith)) in
    rw (address, count, page_again first (omega arith), spelled_number_again 10 pages base_10 (omega arith), perm_again perm) refl

unmap_again : (first pages : ℕ) → IsWithinBounds (Unmap first pages) → unmap_event (hexadecimal (first * 4096) ++ 32 ∷ decimal pages) ≡ Some (Unmap first pages)
unfolding unmap_event
unmap_again first pages h =
    let few = h.1 in
    let some = h.0 in
    let address = parts_at_again 32 (hexadecimal (first * 4096)) (decimal pages) (number_lacks 32 16 (first * 4096) refl base_16 (omega arith)) in
    rw (address, page_again first (omega arith), spelled_number_again 10 pages base_10 (omega arith)) refl

write_again : (addr : ℕ) (bytes : List ℕ) → IsWithinBounds (Write addr bytes) → write_event (hexadecimal addr ++ 32 ∷ encode_lower bytes) ≡ Some (Write addr bytes)
unfolding write_event
write_again addr bytes h =
    let small : addr < 2 ^ 48 = omega (arith, h.0.0, h.0.2) in
    let parts = parts_at_again 32 (hexadecimal addr) (encode_lower bytes) (number_lacks 32 16 addr refl base_16 small) in
    let back = bytes_of_again bytes (recursion_from_All (λ byte. byte < 2 ^ 8) bytes h.1) in
    rw (parts, spelled_number_again 16 addr base_16 small, back) refl

fill_again : (addr len byte : ℕ) → IsWithinBounds (Fill addr len byte) → fill_event (hexadecimal addr ++ 32 ∷ (decimal len ++ 32 ∷ encode_lower (byte ∷ []))) ≡ Some (Fill addr len byte)
unfolding fill_event
fill_again addr len byte h =
    let small : addr < 2 ^ 48 = omega (arith, h.0.0, h.0.2) in
    let few : len < 2 ^ 32 = omega (arith, h.0.1) in
    let address = parts_at_again 32 (hexadecimal addr) (decimal len ++ 32 ∷ encode_lower (byte ∷ [])) (number_lacks 32 16 addr refl base_16 small) in
    let count = parts_at_again 32 (decimal len) (encode_lower (byte ∷ [])) (number_lacks 32 10 len refl base_10 (omega arith)) in
    rw (address, count, spelled_number_again 16 addr base_16 small, count_again len few, byte_again byte h.1) refl

fork_again : (number : ℕ) (mode : Mode) → number < 2 ^ 32 → fork_event (decimal number ++ 32 ∷ mode_text mode) ≡ Some (Fork number mode)
unfolding fork_event
fork_again number mode few =
    let parts = parts_at_again 32 (decimal number) (mode_text mode) (number_lacks 32 10 number refl base_10 (omega arith)) in
    rw (parts, count_again number few, mode_again mode) refl

copy_again : (number cell : ℕ) → number < 2 ^ 32 → cell < 2 ^ 27 → copy_event (decimal number ++ 32 ∷ decimal cell) ≡ Some (Copy number cell)
unfolding copy_event
copy_again number cell few low =
    let parts = parts_at_again 32 (decimal number) (decimal cell) (number_lacks 32 10 number refl base_10 (omega arith)) in
    rw (parts, count_again number few, count_again cell (omega arith)) refl

snap_read_again : (number addr len : ℕ) → number < 2 ^ 32 → addr < 2 ^ 48 → len < 2 ^ 32 → snap_read_event (decimal number ++ 32 ∷ range_fields addr len) ≡ Some (SnapRead number addr len)
unfolding snap_read_event
snap_read_again number addr len few below short =
    let parts = parts_at_again 32 (decimal number) (range_fields addr len) (number_lacks 32 10 number refl base_10 (omega arith)) in
    rw (parts, count_again number few, range_again addr len below short) refl

event_by_again : (e : Event) → IsWithinBounds e → event_by (line_of e) (parts_at 32 (line_of e)) ≡ Some e
unfolding word_event snapshot_event lone_event map_event protect_event read_event drop_event refuse_event
event_by_again (Map first pages perm) h = rw (area_again first pages perm h) refl
event_by_again (Unmap first pages) h = unmap_again first pages h
event_by_again (Protect first pages perm) h = rw (area_again first pages perm h) refl
event_by_again (Read addr len) h = rw (range_again addr len (omega (arith, h.0, h.2)) (omega (arith, h.1))) refl
event_by_again (Write addr bytes) h = write_again addr bytes h
event_by_again (Fill addr len byte) h = fill_again addr len byte h
event_by_again (Fork number mode) h = fork_again number mode h.0.1
event_by_again (Copy number cell) h = copy_again number cell h.0.1 h.1
event_by_again (Drop number) h = rw (count_again number h.1) refl
event_by_again (SnapRead number addr len) h = snap_read_again number addr len h.0.1 (omega (arith, h.1.0, h.1.2)) (omega (arith, h.1.1))
event_by_again Frames h = refl
event_by_again ListAreas h = refl
event_by_again (Refuse nth) h = rw (count_again nth h.1) refl

pub event_of_again : (e : Event) → IsWithinBounds e → event_of (event_line e) ≡ Some e
unfolding event_of
event_of_again e h = rw (event_line-line_of e, event_by_again e h, true_within e h) refl

-- events within their bounds that have one line are the same
pub one_line : (e f : Event) → IsWithinBounds e → IsWithinBounds f → event_line e ≡ event_line f → e ≡ f
one_line e f h g same = some_is e f (sym (event_of_again e h) ∙ ap event_of same ∙ event_of_again f g)
