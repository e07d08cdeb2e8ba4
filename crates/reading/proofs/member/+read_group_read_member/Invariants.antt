-- The bytes left fall from call to call, and a group's members begin where the group's header ends.
use Rattle.std.proofs.Common.{◌+◌, ◌-◌, ◌*◌}
use Rattle.reading.proofs.Progress.{InGroup}
use Rattle.reading.proofs.member.+read_group_read_member.Given as goal

abbrev pub decreases-read_group : goal.decreases-read_group
decreases-read_group l = 2 * (l.end - l.at) + 1

abbrev pub decreases-read_member : goal.decreases-read_member
decreases-read_member l = 2 * (l.end - l.at)

abbrev pub invariant-read_group-loop-read : goal.invariant-read_group-loop-read
invariant-read_group-loop-read l =
    InGroup l.tags l.q l.at l.end l.allowed l.n l.read.at l.read.n l.initial.found l.found

abbrev pub decreases-read_group-loop-read : goal.decreases-read_group-loop-read
decreases-read_group-loop-read l = l.end - l.read.at
