use Rattle.std.proofs.Common.{◌≡◌, ◌∙◌, ap, sym, map, [], List, Ok}
use Rattle.std.proofs.lemmas.Result.{IfErr-weaker, IfOk-weaker}
use Rattle.clap.specs.Words.{Text, kind_of}
use Rattle.clap.specs.Kinds.{HasKind}
use Rattle.meson_json.specs.Titles.{is_title}
use Rattle.meson_command.specs.Asking.{asked_of, without_text}
use Rattle.meson_command.specs.declared.asked.Asked.{Asked}
use Rattle.meson_command.proofs.NoHelp.{no_help}
use Rattle.meson_command.proofs.Taken.{as_taken, asked-of, help_alone, kinds_at, refused, shown, takes_at, version_shown}
use Rattle.meson_command.proofs.asked.asked_as.Goals as goal

pub returns-in-Ok-clause-ok : goal.returns-in-Ok-clause-ok
returns-in-Ok-clause-ok c =
    let ws : List Text = map (λ w. w.now) c.args.words.now in
    let m = c.in-Ok.matches in
    let of = asked-of _ ws m c.in_ok-command.ensures c.in-Ok.ensures.matches in
    let none = kinds_at _ ws (λ ks. ks ≡ []) c.in_ok-command.ensures c.in-Ok.ensures.kinds in
    IfOk-weaker c.asked_from.result _ _ (λ a h. as_taken _ (asked_of ws) none ∙ of ∙ h ∙ ap (λ (x : Asked). Ok x) (sym (no_help _ _ a h))) c.asked_from.ensures.ok

pub returns-in-Ok-clause-refused : goal.returns-in-Ok-clause-refused
returns-in-Ok-clause-refused c =
    let ws : List Text = map (λ w. w.now) c.args.words.now in
    let m = c.in-Ok.matches in
    let of = asked-of _ ws m c.in_ok-command.ensures c.in-Ok.ensures.matches in
    let none = kinds_at _ ws (λ ks. ks ≡ []) c.in_ok-command.ensures c.in-Ok.ensures.kinds in
    IfErr-weaker c.asked_from.result _ _ (λ e h n. as_taken _ (asked_of ws) none ∙ of ∙ h n) c.asked_from.ensures.refused

pub returns-in-Ok-clause-taken : goal.returns-in-Ok-clause-taken
returns-in-Ok-clause-taken c = λ t.
    let ws : List Text = map (λ w. w.now) c.args.words.now in
    let of = asked-of _ ws c.in-Ok.matches c.in_ok-command.ensures c.in-Ok.ensures.matches in
    IfOk-weaker c.asked_from.result _ _ (λ a h. of ∙ h) c.asked_from.ensures.ok

pub returns-in-Ok-clause-taken_refused : goal.returns-in-Ok-clause-taken_refused
returns-in-Ok-clause-taken_refused c = λ t.
    let ws : List Text = map (λ w. w.now) c.args.words.now in
    let of = asked-of _ ws c.in-Ok.matches c.in_ok-command.ensures c.in-Ok.ensures.matches in
    IfErr-weaker c.asked_from.result _ _ (λ e h n. of ∙ h n) c.asked_from.ensures.refused

pub returns-in-DisplayHelp-clause-ok : goal.returns-in-DisplayHelp-clause-ok
returns-in-DisplayHelp-clause-ok c =
    let ws : List Text = map (λ w. w.now) c.args.words.now in
    let has = kinds_at _ ws (λ ks. HasKind ks c.in-Err.error) c.in_ok-command.ensures c.in-Err.ensures.kinds in
    shown _ (asked_of ws) (kind_of c.in-Err.error) (help_alone ws) (sym c.kind.ensures ∙ c.in-DisplayHelp.is) has
    ∙ ap (λ (a : Asked). Ok (without_text a)) (sym c.shown.ensures)

pub returns-in-DisplayHelp-clause-title : goal.returns-in-DisplayHelp-clause-title
returns-in-DisplayHelp-clause-title c = ap (λ (a : Asked). is_title a.title) c.shown.ensures

pub returns-in-DisplayVersion-clause-ok : goal.returns-in-DisplayVersion-clause-ok
returns-in-DisplayVersion-clause-ok c =
    let ws : List Text = map (λ w. w.now) c.args.words.now in
    let has = kinds_at _ ws (λ ks. HasKind ks c.in-Err.error) c.in_ok-command.ensures c.in-Err.ensures.kinds in
    version_shown _ (asked_of ws) (kind_of c.in-Err.error) (help_alone ws) (sym c.kind.ensures ∙ c.in-DisplayVersion.is) has
    ∙ ap (λ (a : Asked). Ok (without_text a)) (sym c.shown-in-DisplayVersion.ensures)

pub returns-in-DisplayVersion-clause-title : goal.returns-in-DisplayVersion-clause-title
returns-in-DisplayVersion-clause-title c = ap (λ (a : Asked). is_title a.title) c.shown-in-DisplayVersion.ensures

pub returns-in-DisplayHelp-clause-taken : goal.returns-in-DisplayHelp-clause-taken
returns-in-DisplayHelp-clause-taken c = λ t.
    let ws : List Text = map (λ w. w.now) c.args.words.now in
    let out = takes_at _ ws _ c.in_ok-command.ensures c.in-Err.ensures.passes t in
    absurd (cc (out, c.kind.ensures, c.in-DisplayHelp.is))

pub returns-in-DisplayVersion-clause-taken : goal.returns-in-DisplayVersion-clause-taken
returns-in-DisplayVersion-clause-taken c = λ t.
    let ws : List Text = map (λ w. w.now) c.args.words.now in
    let out = takes_at _ ws _ c.in_ok-command.ensures c.in-Err.ensures.passes t in
    absurd (cc (out, c.kind.ensures, c.in-DisplayVersion.is))

pub returns : goal.returns
returns c =
    let ws : List Text = map (λ w. w.now) c.args.words.now in
    let has = kinds_at _ ws (λ ks. HasKind ks c.in-Err.error) c.in_ok-command.ensures c.in-Err.ensures.kinds in
    record {
      ok = tt;
      refused = λ n. refused _ (asked_of ws) (kind_of c.in-Err.error) (help_alone ws) (λ e. c.in_default.not-DisplayHelp (c.kind.ensures ∙ e))
          (λ e. c.in_default.not-DisplayVersion (c.kind.ensures ∙ e)) (λ e. c.in_default.not-OutOfMemory (c.kind.ensures ∙ e)) has;
      taken = λ t. tt;
      title = tt;
      taken_refused = λ t n. absurd (c.in_default.not-OutOfMemory (c.kind.ensures ∙ takes_at _ ws _ c.in_ok-command.ensures c.in-Err.ensures.passes t));
    }
