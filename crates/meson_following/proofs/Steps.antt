-- Flows one after another.
use Rattle.std.proofs.Common.{◌≡◌, ◌++◌, refl, sym, ap, ap₂, ◌∙◌}
use Rattle.std.specs.Prelude.{Bool, true, false, ◌||◌, List, []}
use Rattle.std.proofs.lemmas.List.Sums.{fold-append}
use Rattle.meson_lex.specs.declared.kinds.Span.{Span}
use Rattle.meson_following.specs.declared.walk.Question.{Question}
use Rattle.meson_following.specs.declared.flows.Chosen as code_chosen
use Rattle.meson_following.specs.declared.flows.Flow as code
use Rattle.meson_following.specs.CodeFlows.{chosen_view, flow_view}
use Rattle.meson_following.specs.Walks.{Found, FlowsAs, met_by, met_unless}
use Rattle.meson_following.specs.Flows.{Arrival, Flow, both_flow, either_flow, with_condition}
use Rattle.meson_following.specs.Makers.{joined}

module _ (quiet : Bool) (c : Question) where
  none_met : (k : Found) → k ≡ met_unless quiet c k []
  none_met k = none quiet
    where
      none : (q : Bool) → k ≡ met_unless q c k []
      none true = refl
      none false = refl

  -- without expressions that are evaluated
  pub alone : (f : code.Flow) (k : Found) (meant : Flow Span) → flow_view f ≡ meant → FlowsAs quiet c f k k meant
  alone f k meant is =
      record {
        now = ap (λ v. v.now) is;
        turned = ap (λ v. v.turned) is;
        ended = ap (λ v. v.ended) is;
        leaves = ap (λ v. v.leaves) is;
        found = none_met k ∙ ap (λ v. met_unless quiet c k v.arrivals) is;
      }

  pub met_both : (before middle after : Found) (xs ys : List (Arrival Span)) → middle ≡ met_unless quiet c before xs → after ≡ met_unless quiet c middle ys → after ≡ met_unless quiet c before (xs ++ ys)
  met_both before middle after xs ys first second = second ∙ ap (λ k. met_unless quiet c k ys) first ∙ joins quiet
    where
      joins : (q : Bool) → met_unless q c (met_unless q c before xs) ys ≡ met_unless q c before (xs ++ ys)
      joins true = refl
      joins false = sym (fold-append (met_by c.variable.now c.aim) before xs ys)

  module _ (f g h : code.Flow) (before middle after : Found) (F G : Flow Span) (first : FlowsAs quiet c f before middle F) (second : FlowsAs quiet c g middle after G) where
    pub one_then : flow_view h ≡ both_flow (flow_view f) (flow_view g) → FlowsAs quiet c h before after (both_flow F G)
    one_then is =
        record {
          now = ap (λ v. v.now) is ∙ second.now;
          turned = ap (λ v. v.turned) is ∙ ap₂ joined first.turned second.turned;
          ended = ap (λ v. v.ended) is ∙ ap₂ joined first.ended second.ended;
          leaves = ap (λ v. v.leaves) is ∙ ap₂ (λ a b. a || b) first.leaves second.leaves;
          found = met_both before middle after F.arrivals G.arrivals first.found second.found;
        }

    pub one_of_two : flow_view h ≡ either_flow (flow_view f) (flow_view g) → FlowsAs quiet c h before after (either_flow F G)
    one_of_two is =
        record {
          now = ap (λ v. v.now) is ∙ ap₂ joined first.now second.now;
          turned = ap (λ v. v.turned) is ∙ ap₂ joined first.turned second.turned;
          ended = ap (λ v. v.ended) is ∙ ap₂ joined first.ended second.ended;
          leaves = ap (λ v. v.leaves) is ∙ ap₂ (λ a b. a || b) first.leaves second.leaves;
          found = met_both before middle after F.arrivals G.arrivals first.found second.found;
        }

    pub one_condition : (d : code_chosen.Chosen) → chosen_view d ≡ with_condition (flow_view f) (flow_view g) → FlowsAs quiet c d.taken before after (with_condition F G).taken
    one_condition d is =
        record {
          now = ap (λ v. v.taken.now) is ∙ first.now;
          turned = ap (λ v. v.taken.turned) is ∙ ap₂ joined first.turned second.turned;
          ended = ap (λ v. v.taken.ended) is ∙ ap₂ joined first.ended second.ended;
          leaves = ap (λ v. v.taken.leaves) is ∙ ap₂ (λ a b. a || b) first.leaves second.leaves;
          found = met_both before middle after F.arrivals G.arrivals first.found second.found;
        }

-- the same flow, between what is the same
pub moved : {quiet : Bool} {c : Question} {flow : code.Flow} {a b first last : Found} {meant same : Flow Span} → FlowsAs quiet c flow a b meant → a ≡ first → b ≡ last → meant ≡ same
    → FlowsAs quiet c flow first last same
moved {quiet} {c} f begins ends is =
    record {
      now = f.now ∙ ap (λ m. m.now) is;
      turned = f.turned ∙ ap (λ m. m.turned) is;
      ended = f.ended ∙ ap (λ m. m.ended) is;
      leaves = f.leaves ∙ ap (λ m. m.leaves) is;
      found = sym ends ∙ f.found ∙ ap₂ (λ k m. met_unless quiet c k m.arrivals) begins is;
    }
