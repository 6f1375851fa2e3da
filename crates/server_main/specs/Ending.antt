-- How the program ends, by the status of its run.
use Rattle.std.specs.Prelude.{ℕ, List, [], ◌∷◌, ◌++◌, codes}
use Rattle.std.specs.Fmt.{decimal}
use Rattle.server_top.specs.declared.status.Status.{Status}
use Rattle.server_top.specs.declared.status.Status.TheVariants.{Done, Usage, BadScript, ReadFault, WriteFault, Protocol, TooLong, NoMemory}

-- the exit status
abbrev pub exit_status_of : Status → ℕ
exit_status_of Done = 0
exit_status_of (Usage place) = 2
exit_status_of (BadScript line) = 3
exit_status_of ReadFault = 4
exit_status_of WriteFault = 5
exit_status_of (Protocol place) = 9
exit_status_of TooLong = 10
exit_status_of NoMemory = 11

-- the message, which is empty where all went well
abbrev pub message_of : Status → List ℕ
message_of Done = []
message_of (Usage place) = codes "afkv: bad word " ++ decimal place
message_of (BadScript line) = codes "afkv: bad script line " ++ decimal line
message_of ReadFault = codes "afkv: read fault"
message_of WriteFault = codes "afkv: write fault"
message_of (Protocol place) = codes "afkv: bad request at " ++ decimal place
message_of TooLong = codes "afkv: input too long"
message_of NoMemory = codes "afkv: no memory"
