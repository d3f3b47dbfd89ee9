-- A task that is done on the call at a place: its steps as the code has them, and the call as they leave it.
use Rattle.meson_keywords.proofs.Words.{◌≡◌, ℕ, List, [], ◌++◌, get_or, refl, sym, ap, ◌∙◌, subst, Some, None, option_map, option_and_then, unwrap_or, Ok}
use Rattle.meson_keywords.proofs.Words.{bytes_at, Span, ListAt, list_at, Plain, args_view, list_view, view, Arg, Parsed, some-injective, elements}
use Rattle.meson_keywords.proofs.Words.{list_elements, GoodArgs, GoodListing, Loaded, CallRef, good_args, AreBare, plain_trees, Step, all_stepped, IsUnderWay}
use Rattle.meson_keywords.proofs.Words.{Reached, so_far, ListStep, Work, Between, CallStands, TaskDone, steps_of_task, task_steps, trees_after, MayBeWritten}
use Rattle.meson_keywords.proofs.Words.{Task, LeavesCall}
use Rattle.meson_syntax.specs.declared.tree.List as rust
use Rattle.meson_keywords.proofs.CallKnown.{ListKnown, known_stand, list_known}
use Rattle.meson_keywords.proofs.ErasedSteps.{steps_erased}
use Rattle.meson_steps.proofs.OneMoreStep.{all_after}
use Rattle.meson_keywords.proofs.TaskMay.{task_does}

module _ (old : Loaded) (c : CallRef) (w : Work) (before : List Step) (b : Between old c before w) where
  -- the arguments of the call in the code
  pub record ArgsKnown (source : List ℕ) (args : List Arg) : Type 0 where
    pub good : GoodArgs source args
    pub steps : (t : Task) → steps_of_task c t w ≡ task_steps t c (args_view source args)

  module _ (source : List ℕ) (parsed : Parsed) (is_source : source ≡ bytes_at c.file w.files) (is_parsed : parsed ≡ get_or w.trees.items c.file parsed) where
    abbrev text : List ℕ
    text = bytes_at c.file w.files

    abbrev known : ListKnown w.saved.items w.files w.trees.items b.reached.known c b.stands parsed
    known = list_known w.saved.items w.files w.trees.items b.reached.known c b.stands parsed

    found : list_at (view text parsed) c.path.steps ≡ Some known.place
    found = ap (λ p. list_at (view text p) c.path.steps) is_parsed ∙ known.is_place

    pub no_list : ((bytes : List ℕ) → None ≡ option_map (λ (p : ListAt Span). p.list) (list_at (view bytes parsed) c.path.steps)) → ⊥
    no_list none = let both = none text ∙ ap (option_map (λ (p : ListAt Span). p.list)) found in cc

    pub args_known : (l : rust.List) (args : List Arg) → ((bytes : List ℕ) → Some (list_view bytes l) ≡ option_map (λ (p : ListAt Span). p.list) (list_at (view bytes parsed) c.path.steps)) → args ≡ (rust.out-List l).items
        → ArgsKnown source args
    args_known l args is are =
        let same : list_view text l ≡ known.place.list = some-injective _ _ (is text ∙ ap (option_map (λ (p : ListAt Span). p.list)) found) in
        let good = good_args text l (subst GoodListing (sym same) known.good) in
        record {
          good = subst (λ s. GoodArgs s args) (sym is_source) (subst (GoodArgs text) (sym are) good);
          steps = λ t.
              ap (task_steps t c) known.are ∙ steps_erased t c (elements known.place.list)
              ∙ ap (task_steps t c) (ap elements (sym same) ∙ list_elements text l ∙ ap (args_view text) (sym are) ∙ ap (λ s. args_view s args) (sym is_source));
        }

  module _ (t : Task) (may : MayBeWritten t) (steps : List Step) (are : steps_of_task c t w ≡ Ok steps) where
    abbrev here : List Plain
    here = plain_trees (so_far w)

    leaves : LeavesCall c steps here
    leaves = (task_does t may c here (known_stand w.saved.items w.files w.trees.items b.reached.known) b.stands steps are).call

    pub task_under_way : (code : List ListStep) → AreBare steps code → IsUnderWay old (before ++ steps) code w
    task_under_way code bare = record {
      before = before;
      rest = steps;
      joined = refl;
      bare = bare;
      reached = record {
        made = b.reached.made;
        doable = leaves.doable;
        known = b.reached.known;
        distinct = b.reached.distinct;
        few = b.reached.few;
        named = b.reached.named;
      };
    }

    pub trees_done : (new : Work) → Reached old (before ++ steps) [] new → trees_after steps here ≡ plain_trees (so_far new)
    trees_done new r =
        let on = sym (all_after before steps (plain_trees old)) ∙ r.made.are_trees in
        ap (λ o. unwrap_or o here) (sym (ap (option_and_then (all_stepped steps)) b.reached.made.are_trees) ∙ on)

    pub task_done : (new : Work) → Reached old (before ++ steps) [] new → TaskDone old c before t w new
    task_done new r = record { steps = steps; are = are; between = record { reached = r; stands = subst (CallStands c) (trees_done new r) leaves.stands } }
