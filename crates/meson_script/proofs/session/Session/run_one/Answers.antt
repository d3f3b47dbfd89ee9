use Rattle.std.proofs.Common.{◌≡◌, [], ◌∷◌, ◌++◌, length, ap, ap₂, ◌∙◌}
use Rattle.meson_splice.specs.declared.change.Change.{Change}
use Rattle.meson_splice.specs.declared.history.History.{History}
use Rattle.meson_script.proofs.RunFacts.{one-run, one-stops}
use Rattle.meson_script.proofs.session.Session.run_one.Goals as goal

pub returns-in-Ok-counted-clause-done : goal.returns-in-Ok-counted-clause-done
returns-in-Ok-counted-clause-done c =
    let old = c.args.self.now in
    let done = c.in-Ok-counted.ran.done in
    let listed = c.in-Ok-counted.ensures.listed in
    let made : Change = record { splices = done.change.splices; title = c.args.title.now } in
    let pushed = c.titled.result in
    let is : pushed ≡ made = c.titled.ensures ∙ ap (λ t. let x : Change = record { splices = done.change.splices; title = t } in x) (ap (λ b. b.0) c.in-Ok.ensures) in
    let past : c.of.result ≡ old.history.past ++ made ∷ [] =
    c.of.ensures ∙ c.push_reserved.ensures.items ∙ ap (λ cs. cs ++ pushed ∷ []) c.in-Ok-past_with_room.ensures.past ∙ ap (λ x. old.history.past ++ x ∷ []) is in
    record {
      splices = done.change.splices;
      shown = listed.more;
      runs = one-run c.args.form old.project c.counted.new.project c.args.command.now done listed.plain listed.more c.counted.ensures.reads listed.is_plain listed.lists c.in-Ok-counted.ensures.done;
      kept = ap₂ (λ before behind. let h : History = record { past = before; future = behind } in h) past c.clear.ensures;
      files = c.in-Ok-counted.ensures.files;
      count = ap length c.get.ensures;
      info = listed.is_text;
      is_title = ap (λ b. b.1) c.in-Ok.ensures;
    }

pub returns-in-Err-counted-clause-refused : goal.returns-in-Err-counted-clause-refused
returns-in-Err-counted-clause-refused c = λ other. one-stops c.args.self.now.project c.args.command.now c.in-Err-counted.refusal c.counted.ensures.reads (c.in-Err-counted.ensures.refused other)
