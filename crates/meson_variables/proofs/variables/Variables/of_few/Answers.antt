use Rattle.meson_variables.proofs.Words.{◌≡◌, sym, subst, true, is_among, project_good}
use Rattle.meson_variables.proofs.variables.Variables.of_few.Goals as goal

pub returns-then-is_empty-clause-holds : goal.returns-then-is_empty-clause-holds
returns-then-is_empty-clause-holds c =
    record {
      whole = c.requires.whole;
      good = project_good c.args.files.now c.args.trees.now c.requires.whole.parsed;
      kept = c.requires.kept;
      values = λ x among. c.in_ok-values.ensures x (subst (λ names. is_among names x ≡ true) (sym c.as_slice.ensures.value) among);
    }
