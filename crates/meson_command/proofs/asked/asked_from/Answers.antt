use Rattle.std.proofs.Common.{◌≡◌, ◌∙◌, ℕ, Bool, List, Option, ap, ap₂, sym, subst, Err, codes, true}
use Rattle.std.proofs.lemmas.Result.{err_from_is_err_and}
use Rattle.clap.specs.Words.{found_of}
use Rattle.clap.specs.declared.parser.matches.ArgMatches.TheViews.{out-ArgMatches}
use Rattle.clap.proofs.WalkLemmas.{first_value-rows}
use Rattle.meson_json.specs.Titles.{is_title}
use Rattle.meson_command.specs.Asking.{names_no_folder, texts_fit}
use Rattle.meson_command.specs.declared.asked.Flags.{Flags}
use Rattle.meson_command.specs.declared.fault.UsageFault.{UsageFault}
use Rattle.meson_command.proofs.Taken.{asks, entered_by, refuses, refuses_folder, refuses_texts, refuses_title, within}
use Rattle.meson_command.proofs.asked.asked_from.Goals as goal

pub returns-in_err-dir-clause-refused : goal.returns-in_err-dir-clause-refused
returns-in_err-dir-clause-refused c =
    let m = c.args.matches.now in
    let dir = c.get_str.ensures ∙ first_value-rows (found_of m) (codes "DIR") in
    let p = err_from_is_err_and c.from_residual.result c.from_residual.ensures.1 in
    rw (p.1, p.2) (λ n.
    let refused = c.in_err-dir.ensures.refused n in
    refuses_folder _ _ _ (entered_by (out-ArgMatches m).subcommand _ _ c.in-Some.ensures.name c.in-Some.ensures.rows) (sym (ap names_no_folder dir) ∙ refused.1) ∙ ap (λ (u : UsageFault). Err u) (sym refused.0))

pub returns-in_err-action-clause-refused : goal.returns-in_err-action-clause-refused
returns-in_err-action-clause-refused c =
    let m = c.args.matches.now in
    let dir = c.get_str.ensures ∙ first_value-rows (found_of m) (codes "DIR") in
    let folders = c.get_str-2.ensures ∙ first_value-rows (found_of m) (codes "FOLDER") in
    let p = err_from_is_err_and c.from_residual-in_err-action.result c.from_residual-in_err-action.ensures.1 in
    rw (p.1, p.2) (λ n.
    refuses _ _ _ _ _ (entered_by (out-ArgMatches m).subcommand _ _ c.in-Some.ensures.name c.in-Some.ensures.rows)
    (sym (ap names_no_folder dir) ∙ c.in_ok-dir.ensures.ok.0) (within _ _ _ _ _ _ _ folders c.follow_in-follow.ensures (c.in_err-action.ensures.refused n)))

pub returns-clause-ok : goal.returns-clause-ok
returns-clause-ok c =
    let m = c.args.matches.now in
    let dir = c.get_str.ensures ∙ first_value-rows (found_of m) (codes "DIR") in
    let folders = c.get_str-2.ensures ∙ first_value-rows (found_of m) (codes "FOLDER") in
    let file = c.get_str-3.ensures ∙ first_value-rows (found_of m) (codes "FILE") in
    let texts = c.in_ok-texts.ensures.ok in
    let fit = ap₂ (λ (t : Option (List ℕ)) (d : Bool). texts_fit c.in_ok-action.action t d) file (ap (λ (f : Flags). f.dry_run) c.flags_in-flags.ensures) in
    let title = c.in_ok-titled.ensures.ok in
    let same = title.1 ∙ c.word_or-word.ensures in
    let read = c.in_ok-titled.ensures.read in
    rw read (
    asks _ _ _ _ _ _ _ _ _ (entered_by (out-ArgMatches m).subcommand _ _ c.in-Some.ensures.name c.in-Some.ensures.rows)
    (sym (ap names_no_folder dir) ∙ c.in_ok-dir.ensures.ok.0) (c.in_ok-dir.ensures.ok.1 ∙ dir) (within _ _ _ _ _ _ _ folders c.follow_in-follow.ensures c.in_ok-action.ensures.ok)
    (sym fit ∙ texts.0) (texts.1 ∙ file) (subst (λ t. is_title t ≡ true) same title.0) same c.flags_in-flags.ensures
    )

pub returns-in_err-texts-clause-refused : goal.returns-in_err-texts-clause-refused
returns-in_err-texts-clause-refused c =
    let m = c.args.matches.now in
    let dir = c.get_str.ensures ∙ first_value-rows (found_of m) (codes "DIR") in
    let folders = c.get_str-2.ensures ∙ first_value-rows (found_of m) (codes "FOLDER") in
    let file = c.get_str-3.ensures ∙ first_value-rows (found_of m) (codes "FILE") in
    let fit = ap₂ (λ (t : Option (List ℕ)) (d : Bool). texts_fit c.in_ok-action.action t d) file (ap (λ (f : Flags). f.dry_run) c.flags_in-flags.ensures) in
    let p = err_from_is_err_and c.from_residual-in_err-texts.result c.from_residual-in_err-texts.ensures.1 in
    rw (p.1, p.2) (λ n.
    let refused = c.in_err-texts.ensures.refused n in
    refuses_texts _ _ _ _ _ (entered_by (out-ArgMatches m).subcommand _ _ c.in-Some.ensures.name c.in-Some.ensures.rows)
    (sym (ap names_no_folder dir) ∙ c.in_ok-dir.ensures.ok.0) (within _ _ _ _ _ _ _ folders c.follow_in-follow.ensures c.in_ok-action.ensures.ok) (sym fit ∙ refused.1) ∙ ap (λ (u : UsageFault). Err u) (sym refused.0))

pub returns-in_err-titled-clause-refused : goal.returns-in_err-titled-clause-refused
returns-in_err-titled-clause-refused c =
    let m = c.args.matches.now in
    let dir = c.get_str.ensures ∙ first_value-rows (found_of m) (codes "DIR") in
    let folders = c.get_str-2.ensures ∙ first_value-rows (found_of m) (codes "FOLDER") in
    let p = err_from_is_err_and c.from_residual-in_err-titled.result c.from_residual-in_err-titled.ensures.1 in
    rw (p.1, p.2) (λ n.
    let file = c.get_str-3.ensures ∙ first_value-rows (found_of m) (codes "FILE") in
    let fit = ap₂ (λ (t : Option (List ℕ)) (d : Bool). texts_fit c.in_ok-action.action t d) file (ap (λ (f : Flags). f.dry_run) c.flags_in-flags.ensures) in
    let refused = c.in_err-titled.ensures.refused n in
    refuses_title _ _ _ _ _ (entered_by (out-ArgMatches m).subcommand _ _ c.in-Some.ensures.name c.in-Some.ensures.rows)
    (sym (ap names_no_folder dir) ∙ c.in_ok-dir.ensures.ok.0) (within _ _ _ _ _ _ _ folders c.follow_in-follow.ensures c.in_ok-action.ensures.ok) (sym fit ∙ c.in_ok-texts.ensures.ok.0)
    (sym (ap is_title c.word_or-word.ensures) ∙ refused.1) ∙ ap (λ (u : UsageFault). Err u) (sym refused.0))
