-- Small texts, worked out: scripts from the grammar alone, faults from the grammar or from what its reading computes.
use Rattle.std.proofs.Common.{◌≡◌, ℕ, List, [], ◌∷◌, codes, refl, arith, inl, inr}
use Rattle.std.specs.Fmt.{digits}
use Rattle.std.proofs.lemmas.List.Elements.{All-from_recursion}
use Rattle.vm_base.specs.declared.permission.Perm.TheVariants.{ReadWrite as read_write}
use Rattle.vm_base.specs.declared.fork_mode.Mode.TheVariants.{Eager}
use Rattle.trace_events.specs.declared.event.Event.{Event}
use Rattle.trace_events.specs.declared.event.Event.TheVariants.{Map, Read, Fork, Frames}
use Rattle.trace_events.specs.EventBounds.{IsWithinBounds}
use Rattle.trace_text.specs.ScriptGrammar.{ScriptParts, IsScript, IsFaultAt, lines_of}
use Rattle.trace_text.specs.ScriptReading.{count_of, page_at, perm_of, mode_of, range_of, spelled_area, map_event, read_event, fork_event, snapshot_event, word_event, event_of, machine_fields, spelled_machine}
use Rattle.trace_text.specs.SoFar.{line_taken, next_event, script_of}
use Rattle.trace_text.proofs.ScriptLaws.{script_of_faults}

-- ---- from the grammar

-- a machine and its events
abbrev says : ℕ → ℕ → List Event → ScriptParts
says frames cells events = record { frames = frames; cells = cells; events = events }

lines_of_two : lines_of (codes "a\nb\n") ≡ codes "a" ∷ codes "b" ∷ []
lines_of_two = refl

lines_of_feeds : lines_of (codes "\n\n") ≡ [] ∷ [] ∷ []
lines_of_feeds = refl

shortest : IsScript (codes "machine 8") (says 8 256 [])
unfolding digits
shortest = record {
  first = codes "machine 8";
  machine = inr (refl, refl);
  spelled = refl;
  frames_within = (omega arith, omega arith);
  cells_within = (omega arith, omega arith);
  bounds = All-from_recursion IsWithinBounds [] tt;
  rising = tt;
}

with_remarks : IsScript (codes "#c\n\nmachine 64 1\nframes\n#") (says 64 1 (Frames ∷ []))
unfolding digits
with_remarks = record {
  first = codes "machine 64 1";
  machine = inl refl;
  spelled = refl;
  frames_within = (omega arith, omega arith);
  cells_within = (omega arith, omega arith);
  bounds = All-from_recursion IsWithinBounds (Frames ∷ []) (tt, tt);
  rising = (tt, tt);
}

with_an_area : IsScript (codes "machine 64\nmap 100000 2 rw\nread 10000a 2\n") (says 64 256 (Map 256 2 read_write ∷ Read 1048586 2 ∷ []))
unfolding digits
with_an_area = record {
  first = codes "machine 64";
  machine = inr (refl, refl);
  spelled = refl;
  frames_within = (omega arith, omega arith);
  cells_within = (omega arith, omega arith);
  bounds = All-from_recursion IsWithinBounds (Map 256 2 read_write ∷ Read 1048586 2 ∷ []) ((omega arith, omega arith), ((omega arith, omega arith, omega arith), tt));
  rising = (tt, (tt, tt));
}

with_forks : IsScript (codes "machine 8\nfork 1 eager\nfork 3 eager") (says 8 256 (Fork 1 Eager ∷ Fork 3 Eager ∷ []))
unfolding digits
with_forks = record {
  first = codes "machine 8";
  machine = inr (refl, refl);
  spelled = refl;
  frames_within = (omega arith, omega arith);
  cells_within = (omega arith, omega arith);
  bounds = All-from_recursion IsWithinBounds (Fork 1 Eager ∷ Fork 3 Eager ∷ []) (((omega arith, omega arith), refl), (((omega arith, omega arith), refl), tt));
  rising = (omega arith, (omega arith, tt));
}

nothing_at_all : IsFaultAt [] 1
nothing_at_all = record { counted = omega arith; above = inl refl; fault = inr (refl, refl) }

one_line_feed : IsFaultAt (codes "\n") 2
one_line_feed = record { counted = omega arith; above = inl refl; fault = inr (refl, refl) }

two_line_feeds : IsFaultAt (codes "\n\n") 3
two_line_feeds = record { counted = omega arith; above = inl refl; fault = inr (refl, refl) }

one_remark : IsFaultAt (codes "#") 2
one_remark = record { counted = omega arith; above = inl refl; fault = inr (refl, refl) }

-- ---- from what reading computes

too_few_frames : IsFaultAt (codes "machine 7") 1
unfolding script_of line_taken spelled_machine machine_fields count_of
too_few_frames = script_of_faults (codes "machine 7") 1 refl

a_leading_zero : IsFaultAt (codes "\nmachine 08\n") 2
unfolding script_of line_taken spelled_machine machine_fields count_of
a_leading_zero = script_of_faults (codes "\nmachine 08\n") 2 refl

two_machines : IsFaultAt (codes "machine 8\nmachine 8") 2
unfolding script_of line_taken spelled_machine machine_fields count_of next_event event_of word_event snapshot_event
two_machines = script_of_faults (codes "machine 8\nmachine 8") 2 refl

a_space_at_the_end : IsFaultAt (codes "machine 8\nframes \n") 2
unfolding script_of line_taken spelled_machine machine_fields count_of next_event event_of word_event snapshot_event
a_space_at_the_end = script_of_faults (codes "machine 8\nframes \n") 2 refl

a_read_of_nothing : IsFaultAt (codes "machine 8\n#\nread 0 0\nread") 3
unfolding script_of line_taken spelled_machine machine_fields count_of next_event event_of word_event read_event range_of
a_read_of_nothing = script_of_faults (codes "machine 8\n#\nread 0 0\nread") 3 refl

a_fork_numbered_again : IsFaultAt (codes "machine 8\nfork 2 eager\n\nfork 2 eager") 4
unfolding script_of line_taken spelled_machine machine_fields count_of next_event event_of word_event snapshot_event fork_event mode_of
a_fork_numbered_again = script_of_faults (codes "machine 8\nfork 2 eager\n\nfork 2 eager") 4 refl

a_lazy_fork : IsFaultAt (codes "machine 8\nfork 1 async") 2
unfolding script_of line_taken spelled_machine machine_fields count_of next_event event_of word_event snapshot_event fork_event mode_of
a_lazy_fork = script_of_faults (codes "machine 8\nfork 1 async") 2 refl

past_the_last_page : IsFaultAt (codes "machine 8\nmap fffffffff000 2 rw") 2
unfolding script_of line_taken spelled_machine machine_fields count_of next_event event_of word_event map_event spelled_area page_at perm_of
past_the_last_page = script_of_faults (codes "machine 8\nmap fffffffff000 2 rw") 2 refl
