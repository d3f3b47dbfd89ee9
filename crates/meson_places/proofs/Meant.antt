-- Steps that are meant, and the room that they want.
use Rattle.std.proofs.Common.{◌≡◌, true, false, List, Result, Ok, Err, sym, ap, ◌∙◌, subst}
use Rattle.std.specs.Prelude.{◌≢◌, IfErr, IfOk, MatchOption, MatchResult, Option, Some, None, if◌then◌else◌}
use Rattle.std.specs.Result.{IsErrAnd}
use Rattle.meson_splice.specs.Patch.{then_ok}
use Rattle.meson_syntax.specs.Tree.{Expression, Nowhere}
use Rattle.meson_calls.specs.declared.call.CallRef.{CallRef}
use Rattle.meson_calls.specs.declared.refusal.Refusal.{Refusal}
use Rattle.meson_calls.specs.declared.refusal.Refusal.TheVariants.{OutOfMemory, TooDeep}
use Rattle.meson_calls.specs.Loading.{Loaded}
use Rattle.meson_calls.specs.Refusals.{RefusedAs}
use Rattle.meson_steps.specs.declared.step.ListStep.{ListStep}
use Rattle.meson_steps.specs.Meanings.{AreMeant}
use Rattle.meson_steps.specs.ResultLimits.{plain_trees}
use Rattle.meson_steps.specs.Steps.{Step}
use Rattle.meson_places.specs.Room.{has_room, if_room, list_in_trees}

module _ (l : Loaded) (c : CallRef) (e : Expression Nowhere) where
  pub room_fits : has_room e (list_in_trees (plain_trees l) c) ≡ true → (steps : List Step) → if_room l c e steps ≡ Ok steps
  room_fits h steps = ap (λ b. if b then Ok steps else Err TooDeep) h

  pub room_deep : has_room e (list_in_trees (plain_trees l) c) ≡ false → (steps : List Step) → if_room l c e steps ≡ Err TooDeep
  room_deep h steps = ap (λ b. if b then Ok steps else Err TooDeep) h

module _ (r : Result (List Step) Refusal) (code : List ListStep) (m : AreMeant r code) (f : List Step → Result (List Step) Refusal) where
  pub meant_fits : ((steps : List Step) → f steps ≡ Ok steps) → AreMeant (then_ok r f) code
  meant_fits fits = record { steps = m.steps; is = ap (λ x. then_ok x f) m.is ∙ fits m.steps; bare = m.bare }

  pub meant_deep : ((steps : List Step) → f steps ≡ Err TooDeep) → then_ok r f ≡ Err TooDeep
  meant_deep deep = ap (λ x. then_ok x f) m.is ∙ deep m.steps

-- what is made is meant, or it is refused as is meant
module _ {X Y : Type 0} (P : X → Type 0) (meant : Result Y Refusal) where
  pub made_of : (r : Result X Refusal) → IfOk r P → RefusedAs r meant → MatchResult r P (λ e. e ≢ OutOfMemory → meant ≡ Err e)
  made_of (Ok x) fine other = fine
  made_of (Err e) fine other = other

  pub made_fine : (r : Result X Refusal) → MatchResult r P (λ e. e ≢ OutOfMemory → meant ≡ Err e) → IfOk r P
  made_fine (Ok x) h = h
  made_fine (Err e) h = tt

  pub made_refused : (r : Result X Refusal) → MatchResult r P (λ e. e ≢ OutOfMemory → meant ≡ Err e) → RefusedAs r meant
  made_refused (Ok x) h = tt
  made_refused (Err e) h = h

  -- a refusal that is passed on
  pub made_passed : (r : Result X Refusal) (was : Refusal) → IsErrAnd r (λ e. e ≡ was) → (was ≢ OutOfMemory → meant ≡ Err was) → MatchResult r P (λ e. e ≢ OutOfMemory → meant ≡ Err e)
  made_passed (Ok x) was is k = absurd is
  made_passed (Err e) was is k = λ other. k (λ same. other (is ∙ same)) ∙ ap Err (sym is)

  -- only memory may be wanting
  pub made_unless : (r : Result X Refusal) → IfOk r P → IfErr r (λ e. e ≡ OutOfMemory) → MatchResult r P (λ e. e ≢ OutOfMemory → meant ≡ Err e)
  made_unless (Ok x) fine out = fine
  made_unless (Err e) fine out = λ other. absurd (other out)

-- one way or the other
pub of_some : {X : Type 0} (o : Option X) (x : X) (Q : Type 0) (P : X → Type 0) → o ≡ Some x → MatchOption o Q P → P x
of_some o x Q P is h = subst (λ y. MatchOption y Q P) is h

pub of_none : {X : Type 0} (o : Option X) (Q : Type 0) (P : X → Type 0) → o ≡ None → MatchOption o Q P → Q
of_none o Q P is h = subst (λ y. MatchOption y Q P) is h
