-- Walks through parts of a file, one after another.
use Rattle.std.proofs.Common.{◌≡◌, ℕ, List, refl, ap, ap₂, ◌∙◌}
use Rattle.std.specs.Prelude.{Bool, [], ◌∷◌}
use Rattle.std.specs.List.{list_any}
use Rattle.meson_lex.specs.declared.kinds.Span.{Span}
use Rattle.meson_syntax.specs.Tree.{Expression}
use Rattle.meson_calls.specs.declared.call.CallRef.{CallRef}
use Rattle.meson_calls.specs.Calls.{Call}
use Rattle.meson_calls.specs.Project.{placed}
use Rattle.meson_following.specs.declared.effects.Deed.{Deed}
use Rattle.meson_following.specs.declared.effects.Search.{Search}
use Rattle.meson_following.specs.CodeEffects.{does}
use Rattle.meson_following.specs.declared.flows.Chosen as code_chosen
use Rattle.meson_following.specs.declared.flows.Flow as code
use Rattle.meson_following.specs.declared.walk.Trail.{Trail}
use Rattle.meson_following.specs.declared.walk.Walk.{Walk}
use Rattle.meson_following.specs.CodeFlows.{chosen_view, flow_view}
use Rattle.meson_following.specs.Walks.{Chooses, Walks, found_view, met_unless}
use Rattle.meson_following.specs.CodeMakers.{known_view}
use Rattle.meson_following.specs.Effects.{any_leaves_file, any_may_set}
use Rattle.meson_following.specs.Flows.{Choice, Flow, around, both_flow, either_flow, flow_calls, known_if, passed, touched_if, with_block, with_condition}
use Rattle.meson_following.specs.Makers.{Known, joined}
use Rattle.meson_following.proofs.Steps.{alone, one_condition, one_of_two, one_then}

module _ (w : Walk) where
  -- ---- an expression

  -- what a search of the file finds
  pub searched : {b : Bool} {d : Deed} (calls : List ℕ → List (Call Span)) (s : Search) → s.deed ≡ d → s.variable.now ≡ w.question.variable.now → s.source.now ≡ w.source.now
      → b ≡ list_any (does s.deed s.variable.now) (calls s.source.now) → b ≡ list_any (does d w.question.variable.now) (calls w.source.now)
  searched {b} {d} calls s deed variable source is =
      is ∙ ap (λ e. list_any (does e s.variable.now) (calls s.source.now)) deed
      ∙ ap (λ v. list_any (does d v) (calls s.source.now)) variable
      ∙ ap (λ t. list_any (does d w.question.variable.now) (calls t)) source

  pub calls_walked : (before after : Trail) (f : code.Flow) (q : CallRef) (e : Expression Span) (cs : List (Call Span)) (k : Known Span) (sets leaves : Bool)
      → after.path.items ≡ before.path.items
      → found_view after.found ≡ met_unless w.quiet w.question (found_view before.found) (record { at_expression = placed q e; known = known_view f.now } ∷ [])
      → sets ≡ any_may_set w.question.variable.now cs → leaves ≡ any_leaves_file cs → flow_view f ≡ passed sets leaves k
      → Walks w before after f (flow_calls w.question.variable.now cs (placed q e) k)
  calls_walked before after f q e cs k sets leaves back met set leave is =
      record {
        back = back;
        flows = record {
          now = ap (λ v. v.now) is ∙ ap (λ b. touched_if b k) set;
          turned = ap (λ v. v.turned) is;
          ended = ap (λ v. v.ended) is ∙ ap₂ (λ b d. known_if b (touched_if d k)) leave set;
          leaves = ap (λ v. v.leaves) is ∙ leave;
          found =
              met ∙ ap (λ now. met_unless w.quiet w.question (found_view before.found) (record { at_expression = placed q e; known = now } ∷ []))
              (ap (λ v. v.now) is ∙ ap (λ b. touched_if b k) set);
        };
      }

  -- ---- one after another

  pub nothing_walked : (t : Trail) (f : code.Flow) (meant : Flow Span) → flow_view f ≡ meant → Walks w t t f meant
  nothing_walked t f meant is = record { back = refl; flows = alone w.quiet w.question f (found_view t.found) meant is }

  module _ (a b c : Trail) (f g h : code.Flow) (F G : Flow Span) (first : Walks w a b f F) (second : Walks w b c g G) where
    pub both_walked : flow_view h ≡ both_flow (flow_view f) (flow_view g) → Walks w a c h (both_flow F G)
    both_walked is =
        record {
          back = second.back ∙ first.back;
          flows = one_then w.quiet w.question f g h (found_view a.found) (found_view b.found) (found_view c.found) F G first.flows second.flows is;
        }

    pub either_walked : flow_view h ≡ either_flow (flow_view f) (flow_view g) → Walks w a c h (either_flow F G)
    either_walked is =
        record {
          back = second.back ∙ first.back;
          flows = one_of_two w.quiet w.question f g h (found_view a.found) (found_view b.found) (found_view c.found) F G first.flows second.flows is;
        }

  -- ---- branches

  pub condition_walked : (a b c : Trail) (x y : code_chosen.Chosen) (g : code.Flow) (X : Choice Span) (G : Flow Span) → Chooses w a b x X → Walks w b c g G
      → chosen_view y ≡ with_condition (flow_view x.taken) (flow_view g) → Chooses w a c y (with_condition X.taken G)
  condition_walked a b c x y g X G before condition is =
      record {
        taken = record {
          back = condition.back ∙ before.taken.back;
          flows = one_condition w.quiet w.question x.taken g x.taken (found_view a.found) (found_view b.found) (found_view c.found) X.taken G before.taken.flows condition.flows y is;
        };
        left = ap (λ v. v.left) is ∙ condition.flows.now;
      }

  pub block_walked : (a b c : Trail) (x y : code_chosen.Chosen) (g : code.Flow) (X : Choice Span) (G : Flow Span) → Chooses w a b x X → Walks w b c g G
      → chosen_view y ≡ with_block (chosen_view x) (flow_view g) → Chooses w a c y (with_block X G)
  block_walked a b c x y g X G before inside is =
      record {
        taken = record {
          back = inside.back ∙ before.taken.back;
          flows = one_of_two w.quiet w.question x.taken g y.taken (found_view a.found) (found_view b.found) (found_view c.found) X.taken G before.taken.flows inside.flows (ap (λ v. v.taken) is);
        };
        left = ap (λ v. v.left) is ∙ before.left;
      }

  -- ---- loops

  pub known_around : (k turn before : Known Span) (once : code.Flow) (O : Flow Span) → known_view once.now ≡ O.now → known_view once.turned ≡ O.turned
      → turn ≡ joined (known_view once.now) (known_view once.turned) → before ≡ joined k turn → before ≡ around k O
  known_around k turn before once O now turned turns begins = begins ∙ ap (joined k) (turns ∙ ap₂ joined now turned)
