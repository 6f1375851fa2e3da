-- A run of `trace` from a run of its text.
use Rattle.std.proofs.Common.{◌≡◌, ℕ, List, refl, inr}
use Rattle.std.specs.Prelude.{Option, None}
use Rattle.kernel_meaning.specs.RefusedRequests.{PolicySum}
use Rattle.server_top.specs.declared.status.Status.{Status}
use Rattle.server_top.specs.declared.status.Status.TheVariants.{Done, Usage, BadScript, ReadFault, WriteFault, Protocol, TooLong, NoMemory}
use Rattle.server_top.specs.RunPromise.{Streams, WasRead, RanTrace, RanText, script_limit, usage_of}

-- the text was read to its end, and then it ran so
pub ran_text : (policies : PolicySum) (streams : Streams) (text : List ℕ) (status : Status)
    → WasRead streams script_limit text → RanText text policies streams.written streams.written_after status
    → RanTrace policies streams status
ran_text policies streams text Done read ran = (text, (read, ran))
ran_text policies streams text (Usage place) read ran = absurd ran
ran_text policies streams text (BadScript line) read ran = (text, (read, ran))
ran_text policies streams text ReadFault read ran = absurd ran
ran_text policies streams text WriteFault read ran = (text, (read, ran))
ran_text policies streams text (Protocol place) read ran = absurd ran
ran_text policies streams text TooLong read ran = absurd ran
ran_text policies streams text NoMemory read ran = inr (text, (read, ran))

-- a text that was read breaks no word
pub no_usage : (text : List ℕ) (policies : PolicySum) (written after : Option (List ℕ)) (status : Status) → RanText text policies written after status → usage_of status ≡ None
no_usage text policies written after Done ran = refl
no_usage text policies written after (Usage place) ran = absurd ran
no_usage text policies written after (BadScript line) ran = refl
no_usage text policies written after ReadFault ran = refl
no_usage text policies written after WriteFault ran = refl
no_usage text policies written after (Protocol place) ran = refl
no_usage text policies written after TooLong ran = refl
no_usage text policies written after NoMemory ran = refl

-- nor does it fail to be read
pub no_read_fault : (text : List ℕ) (policies : PolicySum) (written after : Option (List ℕ)) (status : Status) → RanText text policies written after status → status ≡ ReadFault → ⊥
no_read_fault text policies written after Done ran same = cc
no_read_fault text policies written after (Usage place) ran same = ran
no_read_fault text policies written after (BadScript line) ran same = cc
no_read_fault text policies written after ReadFault ran same = ran
no_read_fault text policies written after WriteFault ran same = cc
no_read_fault text policies written after (Protocol place) ran same = ran
no_read_fault text policies written after TooLong ran same = ran
no_read_fault text policies written after NoMemory ran same = cc
