-- The room that a register needs.
use Rattle.std.specs.Prelude.{ℕ, ◌+◌, ◌*◌, length}
use Rattle.lines.specs.Line.{number_room, line_room}
use Rattle.register.specs.Register.{header, found_label, entry_label, looks_label, condition_label, refused_label, space}

abbrev pub entry_room : ℕ
entry_room = line_room entry_label

abbrev pub condition_room : ℕ
condition_room = length condition_label + number_room + line_room space

abbrev pub refused_room : ℕ
refused_room = length header + line_room refused_label

-- an output long enough for the register of so many entries and conditions
abbrev pub room_for : (rows n : ℕ) → ℕ
room_for rows n = length header + line_room found_label + entry_room * rows + line_room looks_label + condition_room * n
