-- What a request means, by the call that it names, its words and the hidden arguments of the call.
use Rattle.meson_keywords.proofs.Words.{◌≡◌, ℕ, List, sym, ap, ◌∙◌, subst, Result, Ok, Err, then_ok, File, Span, list_view, Parsed, CallIn, Call, keyword}
use Rattle.meson_keywords.proofs.Words.{value_with_name, call_with, AreParsed, IsProject, Loaded, project, not_hidden, kept_args, kwargs_key, Project, Placed}
use Rattle.meson_keywords.proofs.Words.{CallRef, Role, Refusal, calls_stand, placed_at, call_there, call_refused, plain_trees, Step, CallStands, request_steps}
use Rattle.meson_keywords.proofs.Words.{call_changed, tasks_steps, trees_of, Asked, asked_tasks, Task}
use Rattle.meson_syntax.specs.declared.tree.List as rust
use Rattle.meson_calls.specs.Finding.{the_call}
use Rattle.meson_calls.proofs.KeywordArguments.{keyword_is}
use Rattle.meson_keywords.proofs.CallRoom.{stands_there, trees_are}
use Rattle.meson_calls.specs.declared.call.CallName.{CallName}

-- ---- trees that are read in another place

pub of_trees : (P : Loaded → Type 0) (files : List File) {here there : List Parsed} → here ≡ there → P (record { files = files; parsed = here }) → P (record { files = files; parsed = there })
of_trees P files same p = subst (λ ts. P (record { files = files; parsed = ts })) same p

pub parsed_as : (files : List File) {here there : List Parsed} → here ≡ there → IsProject (record { files = files; parsed = there }) → AreParsed files here
parsed_as files same p = subst (AreParsed files) (sym same) p.parsed

-- ---- a request

module _ (files : List File) (trees : List Parsed) (r : Role) (id : CallName) (asked : Asked) where
  abbrev old : Loaded
  old = record { files = files; parsed = trees }

  abbrev p : Project Span
  p = project old

  abbrev meant : Result (List Step) Refusal
  meant = request_steps p (r, id, asked)

  -- no call, or more than one
  pub none_named : (e : Refusal) → placed_at (the_call p r id) ≡ Err e → meant ≡ Err e
  none_named e is = ap (λ o. then_ok o (call_changed p (asked_tasks r asked))) (call_refused (the_call p r id) e is)

  module _ (place : CallRef) (found : placed_at (the_call p r id) ≡ Ok place) where
    one : (c : Placed (Call Span)) × (the_call p r id ≡ Ok c) × (c.place ≡ place)
    one = call_there (the_call p r id) place found

    pub the_one : Placed (Call Span)
    the_one = one.0

    pub one_is : the_call p r id ≡ Ok the_one
    unfolding the_one
    one_is = one.1

    pub at_place : the_one.place ≡ place
    unfolding the_one
    at_place = one.2

    by_call : meant ≡ call_changed p (asked_tasks r asked) the_one
    by_call = ap (λ o. then_ok o (call_changed p (asked_tasks r asked))) one_is

    abbrev pub in_trees : AreParsed files trees → CallIn trees place
    in_trees are = record { files = files; parsed = are; call = the_one; is_place = at_place; there = calls_stand p r id the_one one_is }

    pub stands : IsProject old → CallStands place (plain_trees old)
    stands is = subst (λ k. CallStands k (plain_trees old)) at_place (stands_there old is the_one (calls_stand p r id the_one one_is))

    -- words of no such request
    pub no_words : (e : Refusal) → asked_tasks r asked ≡ Err e → meant ≡ Err e
    no_words e is = by_call ∙ ap (λ o. call_changed p o the_one) is

    module _ (ts : List Task) (words : asked_tasks r asked ≡ Ok ts) where
      abbrev behind : Result (Unit {0}) Refusal → Result (List Step) Refusal
      behind o = then_ok o (λ _. tasks_steps the_one.place ts (trees_of p))

      by_words : meant ≡ behind (not_hidden (keyword kwargs_key the_one.it))
      by_words = by_call ∙ ap (λ o. call_changed p o the_one) words

      module _ (source : List ℕ) (l : rust.List) (arguments_are : list_view source l ≡ the_one.it.arguments) where
        abbrev hidden : Result (Unit {0}) Refusal
        hidden = not_hidden (kept_args source (value_with_name kwargs_key) 0 (rust.out-List l).items)

        by_arguments : meant ≡ behind hidden
        by_arguments =
            by_words
            ∙ ap (λ a. behind (not_hidden (keyword kwargs_key (call_with the_one.it.function a)))) (sym arguments_are)
            ∙ ap (λ ks. behind (not_hidden ks)) (keyword_is source l the_one.it.function kwargs_key)

        -- arguments that may be hidden
        pub hides : (e : Refusal) → hidden ≡ Err e → meant ≡ Err e
        hides e is = by_arguments ∙ ap behind is

        -- the tasks, one after another
        pub task_by_task : hidden ≡ Ok tt → tasks_steps place ts (plain_trees old) ≡ meant
        task_by_task is = sym (by_arguments ∙ ap behind is ∙ ap (λ k. tasks_steps k ts (trees_of p)) at_place ∙ ap (tasks_steps place ts) (trees_are old))
