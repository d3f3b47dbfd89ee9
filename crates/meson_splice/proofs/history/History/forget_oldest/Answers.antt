use Rattle.std.proofs.Common.{◌≤◌, length, take, ◌++◌, refl, sym, ap, ◌∙◌, arith, rules}
use Rattle.std.proofs.lemmas.List.{length-take-le, take-append-drop}
use Rattle.meson_splice.proofs.history.History.forget_oldest.Goals as goal

pub returns-clause-done : goal.returns-clause-done
returns-clause-done c =
    let past = c.args.self.now.past in
    let within : c.args.count ≤ length past = grind (arith, rules) in
    record {
      gone = take c.args.count past;
      many = length-take-le c.args.count past within;
      past = sym (take-append-drop c.args.count past) ∙ ap (λ cs. take c.args.count past ++ cs) (search rules);
      future = refl;
    }
