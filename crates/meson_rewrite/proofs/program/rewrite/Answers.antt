use Rattle.std.proofs.Common.{◌≡◌, ◌∙◌, true, map, string_bytes, subst, sym}
use Rattle.meson_rewrite.proofs.Shown.{status-shown}
use Rattle.meson_command.specs.Asking.{asked_by, wants_json}
use Rattle.meson_rewrite.proofs.TextEnds.{run-asking-keeps, run-leaves-all, run-leaves-files-all, run-untold-all}
use Rattle.meson_rewrite.proofs.Statuses.{told-0, told-by-words, told-changed, told-keeps, told-reads, told-wanted}
use Rattle.meson_rewrite.specs.Lines.{status}
use Rattle.meson_rewrite.specs.Runs.{wants_exit_code}
use Rattle.meson_rewrite.proofs.program.rewrite.Goals as goal

pub returns-clause-runs : goal.returns-clause-runs
returns-clause-runs g c =
    let ending = c.run-ending.result in
    let ended = c.run-ending.ensures.ends in
    let wanted = wants_exit_code (asked_by (map string_bytes c.args.words.now)) in
    record {
      end = ended.end;
      ends = ended.ends;
      reported = ending.end;
      reports = ended.reports;
      tells = told-wanted wanted _ _ _ _ _ ending.json (wants_json (map string_bytes c.args.words.now)) ending.end c.run-ending.ensures.json
          (told-by-words ending.json ending.exit_code wanted _ _ _ _ _ ending.end c.run-ending.ensures.exit_code c.ended-status.ensures);
      kept = run-untold-all _ _ _ _ ended.ends;
      advised = c.run-ending.ensures.advised;
      may_read = c.run-ending.ensures.reads;
    }

pub returns-clause-asking : goal.returns-clause-asking
returns-clause-asking g c = λ t. run-asking-keeps _ _ _ _ c.run-ending.ensures.ends.ends t

pub returns-clause-kept : goal.returns-clause-kept
returns-clause-kept g c = λ s. told-keeps _ _ _ _ _ _ _ _ _ _ _ c.run-ending.ensures.ends c.ended-status.ensures s

pub returns-clause-changed : goal.returns-clause-changed
returns-clause-changed g c =
    let ending = c.run-ending.result in
    let wanted = wants_exit_code (asked_by (map string_bytes c.args.words.now)) in
    λ is. told-changed wanted ending.json _ _ _ _ _ ending.end
    (told-by-words ending.json ending.exit_code wanted _ _ _ _ _ ending.end c.run-ending.ensures.exit_code c.ended-status.ensures) is

pub returns-clause-reads_all : goal.returns-clause-reads_all
returns-clause-reads_all g c = λ s. told-reads _ _ _ _ _ _ _ c.run-ending.result.end _ c.run-ending.ensures.reads_all c.ended-status.ensures s

pub returns-clause-no_log : goal.returns-clause-no_log
returns-clause-no_log g c = run-leaves-all _ _ _ _ c.run-ending.ensures.ends.ends

pub returns-clause-unchanged : goal.returns-clause-unchanged
returns-clause-unchanged g c =
    let ending = c.run-ending.result in
    let ended = c.run-ending.ensures.ends in
    let asked = asked_by (map string_bytes c.args.words.now) in
    let wanted = wants_exit_code asked in
    λ is. run-leaves-files-all _ _ _ ended.end ended.ends (sym (status-shown true asked ended.end ending.end ended.reports) ∙
    subst (λ w. status w ending.end ≡ 0) is.1
    (told-0 wanted ending.json _ _ _ _ _ ending.end
    (told-by-words ending.json ending.exit_code wanted _ _ _ _ _ ending.end c.run-ending.ensures.exit_code c.ended-status.ensures) is.0))
