use Rattle.std.proofs.Common.{ap, sym, ◌∙◌}
use Rattle.std.specs.Prelude.{nat_eq}
use Rattle.serde_json.proofs.Views.{members_len-members_view}
use Rattle.meson_json.proofs.log.has_members.Goals as goal

pub returns-in-Some : goal.returns-in-Some
returns-in-Some c =
    let len = c.len.ensures.len ∙ sym (members_len-members_view c.in-Some.members.now.entries) in
    rw (← c.in-Some.ensures) (ap (λ k. nat_eq k c.args.count) len)
