use Rattle.std.proofs.lemmas.Result.{IfOk-weaker}
use Rattle.meson_calls.proofs.Words.{◌≡◌, ◌++◌, subst, taken_view, notes_asked, HasNoneOf, ComeBehind}
use Rattle.meson_calls.proofs.SettersKept.{no_call_sets}
use Rattle.meson_calls.proofs.notes.with_kept.Goals as goal

pub returns-in_default : goal.returns-in_default
returns-in_default c =
    let bytes = c.args.source.now in
    let t = c.args.parsed.now in
    let n = c.args.file in
    let names = c.args.names.now in
    let all = c.may_stand_in-all.result in
    let before = taken_view c.args.taken in
    IfOk-weaker c.with_setters-in_default.result (λ found. taken_view found ≡ before ++ notes_asked names all n bytes t) (λ found. ComeBehind names n bytes t before (taken_view found))
    (λ found are. record {
      all = all;
      few = λ no. no_call_sets n bytes t c.requires.spanned (subst (λ ws. HasNoneOf ws bytes) c.requires.words (c.may_stand_in-all.ensures no));
      are = are;
    }) c.with_setters-in_default.ensures
