-- The words of a call list.
use Rattle.std.specs.Prelude.{ℕ, List, Ok, Err, Result, codes, if◌then◌else◌}
use Rattle.std.specs.Str.{bytes_eq}
use Rattle.calllist.specs.declared.line.Name.{Name}
use Rattle.calllist.specs.declared.line.Name.TheVariants.{Session, Profile, Book, Link, Call}
use Rattle.calllist.specs.declared.line.CallName.TheVariants.{Open, Start, Usage, End, Change, Tick, Intervene, Push, Finish, Shelve}
use Rattle.calllist.specs.declared.line.MethodName.{MethodName}
use Rattle.calllist.specs.declared.line.MethodName.TheVariants.{Converged, Offline, Qos}
use Rattle.calllist.specs.declared.stop.Wrong.{Wrong}
use Rattle.calllist.specs.declared.stop.Wrong.TheVariants.{UnknownLine, Method}

-- the line that its first word names
abbrev pub line_named : List ℕ → Result Name Wrong
line_named word =
    if bytes_eq word (codes "session") then Ok Session
    else if bytes_eq word (codes "profile") then Ok Profile
    else if bytes_eq word (codes "book") then Ok Book
    else if bytes_eq word (codes "link") then Ok Link
    else if bytes_eq word (codes "open") then Ok (Call Open)
    else if bytes_eq word (codes "start") then Ok (Call Start)
    else if bytes_eq word (codes "usage") then Ok (Call Usage)
    else if bytes_eq word (codes "end") then Ok (Call End)
    else if bytes_eq word (codes "change") then Ok (Call Change)
    else if bytes_eq word (codes "tick") then Ok (Call Tick)
    else if bytes_eq word (codes "intervene") then Ok (Call Intervene)
    else if bytes_eq word (codes "push") then Ok (Call Push)
    else if bytes_eq word (codes "finish") then Ok (Call Finish)
    else if bytes_eq word (codes "shelve") then Ok (Call Shelve)
    else Err UnknownLine

-- the method that a word names
abbrev pub method_named : List ℕ → Result MethodName Wrong
method_named word =
    if bytes_eq word (codes "converged") then Ok Converged
    else if bytes_eq word (codes "offline") then Ok Offline
    else if bytes_eq word (codes "qos") then Ok Qos
    else Err Method
