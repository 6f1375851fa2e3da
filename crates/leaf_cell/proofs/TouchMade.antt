-- What a touch of an absent page made.
use Rattle.std.proofs.Common.{◌≡◌, ℕ, ◌+◌, ◌<◌, List, [], ◌∷◌, Option, Some, None, refl, sym, ap, subst, arith, inl, inr}
use Rattle.std.specs.Prelude.{is_some, Bool, true, false, cond, Result, Ok, Err, OnOk, OnErr, slice_set, count_by}
use Rattle.std.proofs.lemmas.Bool.{false≢true}
use Rattle.vm_base.specs.declared.frame_request.Want.TheVariants as want
use Rattle.vm_base.specs.declared.refusals.Refused.{Refused as RefusedRequest}
use Rattle.vm_base.specs.Deals.{Deal, Granted, Denied}
use Rattle.vm_base.specs.Frames.{FrameView}
use Rattle.vm_base.specs.FlatMemory.{zero_page}
use Rattle.kernel_meaning.specs.Leaves.{Versions, no_versions, version_at, has_pages, parent_leaves, own_leaves, is_joined, is_own}
use Rattle.kernel_meaning.specs.CellActs.{with_parent_version}
use Rattle.kernel_meaning.specs.CellAccount.{Touch}
use Rattle.leaf_cell.specs.declared.snapshot.Snapshot.{Snapshot}
use Rattle.leaf_cell.specs.declared.snapshot.SnapshotLeaf.{SnapshotLeaf}
use Rattle.leaf_cell.specs.declared.snapshot.SnapshotLeaf.TheVariants as code
use Rattle.leaf_cell.specs.Places.{TableView}
use Rattle.leaf_cell.specs.CellView.{CellView, AreUnjoined, held_of}
use Rattle.leaf_cell.specs.Inside.{AreInside, table_places, table_writable, own_places, snapshot_places, leaf_value, kept_values, cell_value}
use Rattle.leaf_cell.specs.Adding.{IsPut, LedByAdding}
use Rattle.leaf_cell.specs.States.{refused_count}
use Rattle.leaf_cell.specs.Standing.{TakesAccount, MadeAct}
use Rattle.leaf_cell.proofs.NewCell.{none_is_not_some}
use Rattle.leaf_cell.proofs.InsideFacts.{are_filled}
use Rattle.leaf_cell.proofs.PutPage.{room, inside_put, count_put, has_pages_put}
use Rattle.leaf_cell.proofs.TouchActs.{touch-added, touch-first, page-refused, leaf-refused, first-refused}

-- the parent's pages change nothing of a snapshot whose leaf is not joined
places-unjoined : (old new : Versions) (leaf : SnapshotLeaf) → is_joined (leaf_value leaf) ≡ false → snapshot_places old leaf ≡ snapshot_places new leaf
places-unjoined old new (code.Own table) h = refl
places-unjoined old new code.Joined h = absurd (false≢true (sym h))
places-unjoined old new (code.Lost at) h = refl

pub kept-unjoined : (old new : Versions) (snapshot : Option Snapshot) → AreUnjoined (kept_values old snapshot) → kept_values new snapshot ≡ kept_values old snapshot
kept-unjoined old new None h = refl
kept-unjoined old new (Some it) h =
    ap (λ places. record { number = it.number; mode = it.mode; versions = places; leaf = leaf_value it.leaf } ∷ []) (places-unjoined new old it.leaf h.0)

-- the view of a cell where a page was put
pub put-view : (parent : Option TableView) (snapshot : Option Snapshot) (frames : List (Option FrameView)) (next : Option TableView) (new : List (Option FrameView)) (bytes : List ℕ) (page : ℕ)
    (put : IsPut bytes page (table_places parent) frames (table_places next) new) → AreUnjoined (kept_values (table_places parent) snapshot)
    → record { leaves = with_parent_version page put.place (cell_value parent snapshot frames).leaves; frames = slice_set frames put.place (Some put.frame); writable = table_writable next } ≡ cell_value next snapshot new
put-view parent snapshot frames next new bytes page put unjoined = λ i. record {
  leaves = record { parent = sym put.named i; kept = sym (kept-unjoined (table_places parent) (table_places next) snapshot unjoined) i };
  frames = sym put.frames i;
  writable = table_writable next;
}

module _ {State : Type 0} (goes : State → Deal → State → Type 0) (from to : State) (snapshot : Option Snapshot) (frames : List (Option FrameView)) (page : ℕ) (small : page < 512) where
  -- where the leaf table was there
  added-there : (table : TableView) (inside : AreInside (Some table) snapshot frames) (next : Option TableView) (new : List (Option FrameView)) (result : Result (Unit {0}) RefusedRequest)
      → version_at table.places page ≡ None → AreUnjoined (kept_values table.places snapshot) → LedByAdding goes from to true result
      → OnOk result (IsPut zero_page page table.places frames (table_places next) new × (is_some next ≡ true)) → OnErr result ((next ≡ Some table) × (new ≡ frames))
      → MadeAct goes from to (Touch page) (cell_value (Some table) snapshot frames) (cell_value next snapshot new) (refused_count result)
  added-there table inside next new (Ok done) absent unjoined led put kept =
      let view : CellView = cell_value (Some table) snapshot frames in
      record {
        deals = led.deals;
        led = led.led;
        follows = λ account stands. subst (λ deals. TakesAccount (Touch page) view (cell_value next snapshot new) deals None account) (sym led.adding)
            (subst (λ after. TakesAccount (Touch page) view after (Granted want.Page ∷ []) None account) (put-view (Some table) snapshot frames next new zero_page page put.0 unjoined)
            (touch-added view page put.0.place put.0.frame (table_writable next) small inside.parent_size (are_filled (Some table) snapshot frames inside) put.0.free
            (room (Some table) snapshot frames inside next new zero_page page small put.0 put.1 (λ q there. none_is_not_some (version_at table.places page) q absent there))
            absent unjoined put.0.held account stands (inside.used table refl)));
      }
  added-there table inside next new (Err refused) absent unjoined led put kept =
      let view : CellView = cell_value (Some table) snapshot frames in
      record {
        deals = led.deals;
        led = led.led;
        follows = λ account stands. subst (λ deals. TakesAccount (Touch page) view (cell_value next snapshot new) deals (Some refused.at) account) (sym led.adding)
            (subst (λ after. TakesAccount (Touch page) view after (Denied want.Page refused.at ∷ []) (Some refused.at) account) (λ i. cell_value (sym kept.0 i) snapshot (sym kept.1 i))
            (page-refused view page refused.at absent unjoined account stands (inside.used table refl)));
      }

  -- where it was not
  added-first : (inside : AreInside None snapshot frames) (next : Option TableView) (new : List (Option FrameView)) (result : Result (Unit {0}) RefusedRequest)
      → version_at no_versions page ≡ None → AreUnjoined (kept_values no_versions snapshot) → LedByAdding goes from to false result
      → OnOk result (IsPut zero_page page no_versions frames (table_places next) new × (is_some next ≡ true)) → OnErr result ((next ≡ None) × (new ≡ frames))
      → MadeAct goes from to (Touch page) (cell_value None snapshot frames) (cell_value next snapshot new) (refused_count result)
  added-first inside next new (Ok done) absent unjoined led put kept =
      let view : CellView = cell_value None snapshot frames in
      record {
        deals = led.deals;
        led = led.led;
        follows = λ account stands. subst (λ deals. TakesAccount (Touch page) view (cell_value next snapshot new) deals None account) (sym led.adding)
            (subst (λ after. TakesAccount (Touch page) view after (Granted want.Leaf ∷ Granted want.Page ∷ []) None account) (put-view None snapshot frames next new zero_page page put.0 unjoined)
            (touch-first view page put.0.place put.0.frame (table_writable next) small inside.parent_size (are_filled None snapshot frames inside) put.0.free
            (room None snapshot frames inside next new zero_page page small put.0 put.1 (λ q there. none_is_not_some (version_at no_versions page) q absent there))
            absent unjoined put.0.held account stands refl));
      }
  added-first inside next new (Err refused) absent unjoined led put kept =
      let view : CellView = cell_value None snapshot frames in
      record {
        deals = led.deals;
        led = led.led;
        follows = λ account stands. subst (λ after. TakesAccount (Touch page) view after led.deals (Some refused.at) account) (λ i. cell_value (sym kept.0 i) snapshot (sym kept.1 i))
            (elim led.adding [
              | inl leaf ↦ subst (λ deals. TakesAccount (Touch page) view view deals (Some refused.at) account) (sym leaf) (leaf-refused view page refused.at absent unjoined account stands refl)
              | inr first ↦ subst (λ deals. TakesAccount (Touch page) view view deals (Some refused.at) account) (sym first) (first-refused view page refused.at absent unjoined account stands refl)
            ]);
      }

  pub made-added : (parent : Option TableView) (inside : AreInside parent snapshot frames) (next : Option TableView) (new : List (Option FrameView)) (result : Result (Unit {0}) RefusedRequest)
      → version_at (table_places parent) page ≡ None → AreUnjoined (kept_values (table_places parent) snapshot) → LedByAdding goes from to (is_some parent) result
      → OnOk result (IsPut zero_page page (table_places parent) frames (table_places next) new × (is_some next ≡ true)) → OnErr result ((next ≡ parent) × (new ≡ frames))
      → MadeAct goes from to (Touch page) (cell_value parent snapshot frames) (cell_value next snapshot new) (refused_count result)
  made-added (Some table) inside next new result absent unjoined led put kept = added-there table inside next new result absent unjoined led put kept
  made-added None inside next new result absent unjoined led put kept = added-first inside next new result absent unjoined led put kept

-- the order of the cell afterwards
pub inside-added : (parent : Option TableView) (snapshot : Option Snapshot) (frames : List (Option FrameView)) (inside : AreInside parent snapshot frames) (page : ℕ) (small : page < 512)
    (next : Option TableView) (new : List (Option FrameView)) (result : Result (Unit {0}) RefusedRequest) → version_at (table_places parent) page ≡ None
    → OnOk result (IsPut zero_page page (table_places parent) frames (table_places next) new × (is_some next ≡ true)) → OnErr result ((next ≡ parent) × (new ≡ frames))
    → OnOk result (table_writable next ≡ slice_set (table_writable parent) page true) → AreInside next snapshot new
inside-added parent snapshot frames inside page small next new (Ok done) absent put kept set =
    inside_put parent snapshot frames inside next new zero_page page small put.0 put.1 (λ q there. none_is_not_some (version_at (table_places parent) page) q absent there) set
inside-added parent snapshot frames inside page small next new (Err refused) absent put kept set = subst (λ p. AreInside p snapshot new) (sym kept.0) (subst (AreInside parent snapshot) (sym kept.1) inside)

-- the parent's leaf counts as one frame where there is a page
pub leaf-count : (places : Versions) (b : Bool) → has_pages places ≡ b → ◌≡◌ {A = ℕ} (cond (has_pages places) 1 0) (cond b 1 0)
leaf-count places b is = ap (λ h. cond h 1 0) is

pub old-leaf : (parent : Option TableView) (snapshot : Option Snapshot) (frames : List (Option FrameView)) → AreInside parent snapshot frames → has_pages (table_places parent) ≡ is_some parent
old-leaf None snapshot frames inside = refl
old-leaf (Some table) snapshot frames inside = inside.used table refl

either-way : (b : Bool) → ◌≡◌ {A = ℕ} (cond b 1 2 + cond b 1 0) 2
either-way true = refl
either-way false = refl

-- the frames that the cell holds afterwards
pub held-added : (parent : Option TableView) (snapshot : Option Snapshot) (frames : List (Option FrameView)) (inside : AreInside parent snapshot frames) (page : ℕ) (small : page < 512)
    (next : Option TableView) (new : List (Option FrameView)) (result : Result (Unit {0}) RefusedRequest) (before after : ℕ) → version_at (table_places parent) page ≡ None
    → AreUnjoined (kept_values (table_places parent) snapshot)
    → OnOk result (IsPut zero_page page (table_places parent) frames (table_places next) new × (is_some next ≡ true)) → OnErr result ((next ≡ parent) × (new ≡ frames))
    → OnOk result (after ≡ before + cond (is_some parent) 1 2) → OnErr result (after ≡ before)
    → after + held_of (cell_value parent snapshot frames) ≡ before + held_of (cell_value next snapshot new)
held-added parent snapshot frames inside page small next new (Ok done) before after absent unjoined put kept taken returned =
    let left : (q : ℕ) → version_at (table_places parent) page ≡ Some q → version_at (own_places snapshot) page ≡ Some q = λ q there. none_is_not_some (version_at (table_places parent) page) q absent there in
    let count : count_by is_some new ≡ count_by is_some frames + 1 = count_put parent snapshot frames inside next new zero_page page small put.0 put.1 left in
    let old : parent_leaves (cell_value parent snapshot frames).leaves ≡ cond (is_some parent) 1 0 = leaf-count (table_places parent) (is_some parent) (old-leaf parent snapshot frames inside) in
    let one : parent_leaves (cell_value next snapshot new).leaves ≡ 1 = leaf-count (table_places next) true (has_pages_put parent snapshot frames inside next new zero_page page small put.0 put.1 left) in
    let own : own_leaves (cell_value next snapshot new).leaves ≡ own_leaves (cell_value parent snapshot frames).leaves =
    ap (count_by (λ it. is_own it.leaf)) (kept-unjoined (table_places parent) (table_places next) snapshot unjoined) in
    let both : ◌≡◌ {A = ℕ} (cond (is_some parent) 1 2 + cond (is_some parent) 1 0) 2 = either-way (is_some parent) in
    omega (arith, count, old, one, own, both, taken)
held-added parent snapshot frames inside page small next new (Err refused) before after absent unjoined put kept taken returned =
    let same : held_of (cell_value next snapshot new) ≡ held_of (cell_value parent snapshot frames) = λ i. held_of (cell_value (kept.0 i) snapshot (kept.1 i)) in
    omega (arith, same, returned)
