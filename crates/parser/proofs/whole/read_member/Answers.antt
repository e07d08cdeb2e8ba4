-- `read_member` meets its contract: groups opened, a condition read, groups closed.
use Rattle.parser.proofs.Members.{member_can_close, member_read, member_room, member_wrong}
use Rattle.parser.proofs.whole.read_member.Goals as goal

pub open_groups-opened-requires : goal.open_groups-opened-requires
open_groups-opened-requires c = let p = c.requires in (p.0, (p.1.0, c.args.tags.now, p.1.1))

pub read_condition-requires : goal.read_condition-requires
read_condition-requires c = member_room c.requires c.open_groups-opened.ensures c.open_groups-opened.auto.out

pub returns-in_err-condition : goal.returns-in_err-condition
returns-in_err-condition c =
    rw c.from_residual.ensures (member_wrong c.requires c.open_groups-opened.ensures c.open_groups-opened.auto.out c.in_err-condition.ensures)

pub close_groups-requires : goal.close_groups-requires
close_groups-requires c =
    member_can_close c.requires c.open_groups-opened.ensures c.open_groups-opened.auto.out c.in_ok-condition.ensures c.read_condition.auto.out

pub returns : goal.returns
returns c = member_read c.requires c.open_groups-opened.ensures c.open_groups-opened.auto.out c.in_ok-condition.ensures c.close_groups.ensures
