use Rattle.meson_json.proofs.fault.ScriptFaultDisplay.fmt.Goals as goal

pub returns-in-BadField-clause-writes : goal.returns-in-BadField-clause-writes
returns-in-BadField-clause-writes g c = rw c.in-BadField.is c.write-in-BadField.ensures.writes

pub returns-in-UnknownOperation-clause-writes : goal.returns-in-UnknownOperation-clause-writes
returns-in-UnknownOperation-clause-writes g c = rw c.in-UnknownOperation.is c.write-in-UnknownOperation.ensures.writes

pub returns-in-UnknownMember-clause-writes : goal.returns-in-UnknownMember-clause-writes
returns-in-UnknownMember-clause-writes g c = rw c.in-UnknownMember.is c.write-in-UnknownMember.ensures.writes
