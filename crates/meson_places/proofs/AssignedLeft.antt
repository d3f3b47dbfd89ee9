-- What setting an assigned value leaves.
use Rattle.std.proofs.Common.{◌≡◌, ℕ, true, false, List, Option, Some, None, Ok, Err, refl, sym, ap, ◌∙◌, inl, inr}
use Rattle.std.specs.Prelude.{Bool, if◌then◌else◌, length}
use Rattle.std.proofs.lemmas.Bool.{false≢true}
use Rattle.meson_lex.specs.declared.kinds.Span.{Span}
use Rattle.meson_syntax.specs.Tree.{Expression, Plain}
use Rattle.meson_calls.specs.declared.call.CallRef.{CallRef}
use Rattle.meson_calls.specs.declared.refusal.Refusal.TheVariants.{NotLiteral, OtherKind}
use Rattle.meson_calls.specs.Loading.{Loaded, project}
use Rattle.meson_calls.specs.Project.{expression_at}
use Rattle.meson_steps.specs.ResultLimits.{plain_trees}
use Rattle.meson_steps.specs.Steps.{Step, all_stepped}
use Rattle.meson_steps.specs.GivenWords.{MayBeGiven}
use Rattle.meson_steps.specs.declared.given.Given.{Given}
use Rattle.meson_places.specs.AssignedValues.{assign_steps, is_assigned, is_one_line}
use Rattle.meson_places.specs.Changes.{alone_in_array, replaces_texts, set_whole}
use Rattle.meson_places.specs.Effects.{AssignedSet}
use Rattle.meson_places.specs.Slots.{elements_in}
use Rattle.meson_places.specs.Values.{keeps_kind, written_given}
use Rattle.meson_places.proofs.AssignedDoable.{assigned_left}
use Rattle.meson_places.proofs.ElementsLeft.{alone_set, texts_in}

module _ (l : Loaded) (g : Given) (may : MayBeGiven g) (key : List ℕ) (c : CallRef) (steps : List Step) (after : List Plain) (done : all_stepped steps (plain_trees l) ≡ Some after) where
  pub assigned_set : (o : Option (Expression Span)) → expression_at (project l) c ≡ o → set_whole l g (written_given g may) key c o ≡ Ok steps → AssignedSet l g c (plain_trees l) after
  assigned_set None at_ made = absurd (let no : ⊥ = cc in no)
  assigned_set (Some e) at_ made = go (is_assigned (project l) c) (keeps_kind g e) (is_one_line g) (replaces_texts g e) refl refl refl made
    where
      go : (a b d t : Bool) → is_assigned (project l) c ≡ a → keeps_kind g e ≡ b → replaces_texts g e ≡ t
          → (if a then (if b then (if d then Ok (assign_steps c (written_given g may)) else Err (NotLiteral key))
          else (if t then Ok (alone_in_array c (length (elements_in e)) (written_given g may)) else Err (OtherKind key))) else Err (NotLiteral key)) ≡ Ok steps → AssignedSet l g c (plain_trees l) after
      go true true true t there kind texts m =
          let same : assign_steps c (written_given g may) ≡ steps = cc in
          record {
            value = e;
            is_value = at_;
            assigned = there;
            kept = inl kind;
            may = may;
            now = λ k. assigned_left c (written_given g may) (plain_trees l) after (ap (λ ss. all_stepped ss (plain_trees l)) same ∙ done);
            alone = λ other k. absurd (false≢true (sym other ∙ kind));
          }
      go true false d true there kind texts m =
          let same : alone_in_array c (length (elements_in e)) (written_given g may) ≡ steps = cc in
          record {
            value = e;
            is_value = at_;
            assigned = there;
            kept = inr texts;
            may = may;
            now = λ k. absurd (false≢true (sym kind ∙ k));
            alone = λ other k. alone_set l c e at_ (texts_in g e texts) after (written_given g may) (ap (λ ss. all_stepped ss (plain_trees l)) same ∙ done);
          }
      go false b d t there kind texts m = absurd (let no : ⊥ = cc in no)
      go true true false t there kind texts m = absurd (let no : ⊥ = cc in no)
      go true false d false there kind texts m = absurd (let no : ⊥ = cc in no)
