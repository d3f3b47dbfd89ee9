-- Steps of which some are done: from the start, over each step, to the end.
use Rattle.meson_steps.proofs.Words.{◌≡◌, ℕ, ◌<◌, ◌≤◌, List, [], ◌∷◌, ◌++◌, length, refl, sym, ap, ◌∙◌, subst, IfErr, Result, Ok, Err, Some, append_assoc}
use Rattle.meson_steps.proofs.Words.{bytes_at, File, max_len, Loaded, Refusal, TooDeep, TooLarge, IsDone, MayNotBeDone, Meaning, deep, large, AreBare}
use Rattle.meson_steps.proofs.Words.{AreDoable, bare, AreShallow, plain_trees, Step, StepsMake, none, AreKnown, HasDeep, HasLarge, IsFresh, IsUnderWay, Reached}
use Rattle.meson_steps.proofs.Words.{Standing, AreUnderWay, HasReached, so_far, ListStep, Work, AreShallowSoFar, IsNext}
use Rattle.std.proofs.Common.{append-nil}
use Rattle.meson_steps.specs.Plans.{Doable}
use Rattle.meson_steps.proofs.WorkKnown.{known_first}
use Rattle.meson_steps.proofs.WorkLimits.{all_small, known_parsed, known_shallow, not_shallow, not_small}

-- ---- the start

module _ (w : Work) (fresh : IsFresh w) (steps : List Step) where
  abbrev files : List File
  files = w.files

  pub first_reached : AreDoable steps (plain_trees (so_far w)) → Reached (so_far w) [] steps w
  first_reached doable = record {
    made = record {
      bytes = 0;
      are_trees = refl;
      are_done = subst (λ ss. StepsMake files [] ss files 0) (sym fresh.no_splices) (none files);
      is_relexed = fresh.none_relexed;
    };
    doable = doable;
    known = subst (λ saved. AreKnown saved files w.trees.items) (sym fresh.none_saved) (known_first files w.trees.items fresh.project.parsed);
    distinct = fresh.distinct;
    few = fresh.project.few;
    named = fresh.project.named;
  }

  pub under_way_first : (code : List ListStep) → Doable (so_far w) steps code → IsUnderWay (so_far w) steps code w
  under_way_first code d = record { before = []; rest = steps; joined = refl; bare = d.bare; reached = first_reached d.doable }

-- ---- a step

pub record SplitsAt (rest : List Step) (code : ListStep) (left : List ListStep) : Type 0 where
  pub next : Step
  pub more : List Step
  pub is : rest ≡ next ∷ more
  pub of : bare next ≡ Some code
  pub bare_more : AreBare more left

splits : (rest : List Step) (code : ListStep) (left : List ListStep) → AreBare rest (code ∷ left) → SplitsAt rest code left
splits [] code left are = absurd cc
splits (s ∷ rest) code left are = record { next = s; more = rest; is = refl; of = cc; bare_more = cc }

pub next_step : (old : Loaded) (w : Standing) (steps : List Step) (code : ListStep) (left : List ListStep) → AreUnderWay old steps (code ∷ left) w → IsNext old w code
next_step old w steps code left u =
    let s = splits u.rest code left u.bare in
    record { before = u.before; next = s.next; rest = s.more; is = s.of; reached = subst (λ r. HasReached old u.before r w) s.is u.reached }

pub under_way_more : (old : Loaded) (w new : Standing) (steps : List Step) (code : ListStep) (left : List ListStep) → AreUnderWay old steps (code ∷ left) w
    → ((before rest : List Step) (s : Step) → bare s ≡ Some code → HasReached old before (s ∷ rest) w → HasReached old (before ++ s ∷ []) rest new) → AreUnderWay old steps left new
under_way_more old w new steps code left u done =
    let s = splits u.rest code left u.bare in
    record {
      before = u.before ++ s.next ∷ [];
      rest = s.more;
      joined = u.joined ∙ ap (λ r. u.before ++ r) s.is ∙ sym (append_assoc u.before (s.next ∷ []) s.more);
      bare = s.bare_more;
      reached = done u.before s.more s.next s.of (subst (λ r. HasReached old u.before r w) s.is u.reached);
    }

-- ---- the end

none_left : (rest : List Step) → AreBare rest [] → rest ≡ []
none_left [] are = refl
none_left (s ∷ rest) are = absurd cc

pub all_reached : (old : Loaded) (w : Standing) (steps : List Step) → AreUnderWay old steps [] w → HasReached old steps [] w
all_reached old w steps u =
    let none = none_left u.rest u.bare in
    let all : u.before ≡ steps = sym (u.joined ∙ ap (λ r. u.before ++ r) none ∙ simp append-nil) in
    subst (λ ss. HasReached old ss [] w) all (subst (λ r. HasReached old u.before r w) none u.reached)

module _ (old : Loaded) (w : Work) (meant : Meaning) (steps : List Step) (is : meant ≡ Ok steps) (r : Reached old steps [] w) where
  pub too_deep : HasDeep w.trees.items → MayNotBeDone old meant TooDeep
  too_deep h = deep steps w is r.made (not_shallow w.files w.trees.items r.known.as_many h)

  module _ (shallow : AreShallowSoFar w.saved.items w.trees.items) where
    are_shallow : AreShallow (plain_trees (so_far w))
    are_shallow = known_shallow w.saved.items w.files w.trees.items r.known shallow

    pub too_large : HasLarge w.files → MayNotBeDone old meant TooLarge
    too_large h = large steps w is r.made are_shallow (not_small w.files h)

    pub is_done : ((k : ℕ) → k < length w.files → length (bytes_at k w.files) ≤ max_len) → IsDone old meant w
    is_done small = record {
      steps = steps;
      is = is;
      made = r.made;
      shallow = are_shallow;
      small = all_small w.files small;
      project = record { few = r.few; named = r.named; parsed = known_parsed w.saved.items w.files w.trees.items r.known shallow small };
    }

-- a refusal whatever else is asked of it
pub refused_anyway : (P Q : Refusal → Type 0) (r : Result (Unit {0}) Refusal) → IfErr r P → IfErr r (λ e. Q e → P e)
refused_anyway P Q (Ok done) why = tt
refused_anyway P Q (Err e) why = λ asked. why
