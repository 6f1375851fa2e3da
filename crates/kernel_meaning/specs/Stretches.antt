-- What several askers asked for and gave back, one after another, between two moments, and how far that raised their counts.
use Rattle.std.specs.Prelude.{◌≡◌, ℕ, zero, suc, ◌+◌, ◌-◌, ◌==◌, Bool, true, false, List, [], ◌∷◌, map, Option}
use Rattle.vm_base.specs.declared.frame_request.Want.{Want}
use Rattle.vm_base.specs.declared.frame_request.Asker.{Asker}
use Rattle.vm_base.specs.declared.frame_request.Asker.TheVariants.{Parent, Snapshot}
use Rattle.vm_base.specs.Counts.{next_count}
use Rattle.vm_base.specs.Deals.{Deal, Granted, Denied, Returned}
use Rattle.kernel_meaning.specs.Leaves.{holds_number}
use Rattle.kernel_meaning.specs.RefusedRequests.{Request}

-- a deal, and who made it
pub data Dealing : Type 0 where
  By : Asker → Deal → Dealing

-- deals of one asker
abbrev pub dealings_of : Asker → List Deal → List Dealing
dealings_of asker deals = map (By asker) deals

-- a request that was granted, or refused, as it stood when it was made
abbrev pub request_made : Asker → Want → Option ℕ → ℕ → ℕ → Bool → Request
request_made asker want named made out is_refused = record {
  number = made + 1;
  asker = asker;
  want = want;
  out = out;
  is_named = holds_number named (made + 1);
  is_refused = is_refused;
}

-- the requests among dealings, behind so many requests and with so many frames out; a refuse line may name one of them
abbrev pub requests_among : Option ℕ → ℕ → ℕ → List Dealing → List Request
requests_among named made out [] = []
requests_among named made out (By asker (Granted want) ∷ dealings) =
    request_made asker want named made out false ∷ requests_among named (made + 1) (out + 1) dealings
requests_among named made out (By asker (Denied want at) ∷ dealings) =
    request_made asker want named made out true ∷ requests_among named (made + 1) out dealings
requests_among named made out (By asker Returned ∷ dealings) = requests_among named made (out - 1) dealings

-- how many requests were made behind dealings
abbrev pub made_among : ℕ → List Dealing → ℕ
made_among made [] = made
made_among made (By asker (Granted want) ∷ dealings) = made_among (made + 1) dealings
made_among made (By asker (Denied want at) ∷ dealings) = made_among (made + 1) dealings
made_among made (By asker Returned ∷ dealings) = made_among made dealings

-- the frames out behind dealings
abbrev pub out_among : ℕ → List Dealing → ℕ
out_among out [] = out
out_among out (By asker (Granted want) ∷ dealings) = out_among (out + 1) dealings
out_among out (By asker (Denied want at) ∷ dealings) = out_among out dealings
out_among out (By asker Returned ∷ dealings) = out_among (out - 1) dealings

-- the askers are one and the same
abbrev pub is_same_asker : Asker → Asker → Bool
is_same_asker Parent Parent = true
is_same_asker Parent (Snapshot n) = false
is_same_asker (Snapshot n) Parent = false
is_same_asker (Snapshot n) (Snapshot m) = n == m

-- one more, where it counts
abbrev pub one_more_if : Bool → ℕ → ℕ
one_more_if true n = suc n
one_more_if false n = n

-- how many requests of an asker were refused among dealings
abbrev pub refused_among : Asker → List Dealing → ℕ
refused_among asker [] = 0
refused_among asker (By other (Granted want) ∷ dealings) = refused_among asker dealings
refused_among asker (By other (Denied want at) ∷ dealings) =
    one_more_if (is_same_asker asker other) (refused_among asker dealings)
refused_among asker (By other Returned ∷ dealings) = refused_among asker dealings

-- how many requests of an asker are among dealings
abbrev pub requested_among : Asker → List Dealing → ℕ
requested_among asker [] = 0
requested_among asker (By other (Granted want) ∷ dealings) =
    one_more_if (is_same_asker asker other) (requested_among asker dealings)
requested_among asker (By other (Denied want at) ∷ dealings) =
    one_more_if (is_same_asker asker other) (requested_among asker dealings)
requested_among asker (By other Returned ∷ dealings) = requested_among asker dealings

-- a refusal that counts carries the count behind it, and the rest goes on from there
abbrev pub CarriesCount : Bool → ℕ → ℕ → (ℕ → Type 0) → Type 0
CarriesCount true count at Rest = (at ≡ next_count count) × Rest (next_count count)
CarriesCount false count at Rest = Rest count

-- each refusal of an asker among dealings carries its count, which had this value before
abbrev pub AreCountedAmong : Asker → ℕ → List Dealing → Type 0
AreCountedAmong asker count [] = Unit {0}
AreCountedAmong asker count (By other (Granted want) ∷ dealings) = AreCountedAmong asker count dealings
AreCountedAmong asker count (By other (Denied want at) ∷ dealings) =
    CarriesCount (is_same_asker asker other) count at (λ count. AreCountedAmong asker count dealings)
AreCountedAmong asker count (By other Returned ∷ dealings) = AreCountedAmong asker count dealings

-- a count behind so many further refusals
abbrev pub counted_up : ℕ → ℕ → ℕ
counted_up count zero = count
counted_up count (suc n) = counted_up (next_count count) n

-- an asker's count went from one value to another by its refused requests among dealings, each of which carries it
pub record IsCountedFrom (asker : Asker) (before : ℕ) (dealings : List Dealing) (behind : ℕ) : Type 0 where
  pub told : AreCountedAmong asker before dealings
  pub rose : behind ≡ counted_up before (refused_among asker dealings)
