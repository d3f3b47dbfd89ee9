use Rattle.meson_calls.proofs.Words.{sym, subst, HasNoneOf}
use Rattle.meson_calls.proofs.SettersKept.{no_call_sets}
use Rattle.meson_calls.proofs.kept.file_sets_by_call.Goals as goal

pub returns-then-not-may_stand_in : goal.returns-then-not-may_stand_in
returns-then-not-may_stand_in c =
    let bytes = c.args.source.now in
    sym (no_call_sets c.args.file bytes c.args.parsed.now c.requires.spanned (subst (λ ws. HasNoneOf ws bytes) c.requires.words (c.may_stand_in.ensures c.if-not-may_stand_in.true)))
