-- What removing or replacing leaves of the lists of a value.
use Rattle.std.proofs.Common.{◌≡◌, ℕ, true, false, List, [], ◌∷◌, Some, None, Result, Ok, Err, refl, sym, ap, ◌∙◌, subst, inl, inr}
use Rattle.std.specs.Prelude.{Bool, ◌⊎◌, Option, if◌then◌else◌}
use Rattle.std.specs.List.{list_all}
use Rattle.meson_lex.specs.declared.kinds.Span.{Span}
use Rattle.meson_splice.specs.Files.{bytes_at}
use Rattle.meson_syntax.specs.Tree.{Expression, Nowhere, Plain}
use Rattle.meson_edit.specs.Edits.{Remove, is_empty}
use Rattle.meson_calls.specs.declared.call.CallRef.{CallRef}
use Rattle.meson_calls.specs.declared.refusal.Refusal.{Refusal}
use Rattle.meson_calls.specs.declared.refusal.Refusal.TheVariants.{NoSuchValue, NotRemovable}
use Rattle.meson_calls.specs.Loading.{IsProject, Loaded, project}
use Rattle.meson_calls.specs.Project.{child, expression_at}
use Rattle.meson_steps.specs.GivenWords.{MayBeGiven}
use Rattle.meson_steps.specs.ResultLimits.{plain_trees}
use Rattle.meson_steps.specs.Steps.{Step, all_stepped, step_in}
use Rattle.meson_steps.specs.declared.given.Given.{Given}
use Rattle.meson_places.specs.declared.slots.Slot.TheVariants as slot
use Rattle.meson_places.specs.Changes.{element_child}
use Rattle.meson_places.specs.Effects.{AssignedExchanged, ElementRemoved, ElementReplaced, ListsExchanged, ListsLost, LoneExchanged, LoneLost, WholeRemoved, WholeReplaced}
use Rattle.meson_places.specs.Equality.{lists_say}
use Rattle.meson_places.specs.Expressions.{ExpressionIs}
use Rattle.meson_places.specs.Laws.{RemovesWhatIsSaid, ReplacesWhatIsSaid}
use Rattle.meson_places.specs.Removals.{remove_from, remove_steps, remove_there, remove_whole}
use Rattle.meson_places.specs.Replacements.{Exchange, exchange, exchange_steps, if_assigned, replace_in, replace_lone, replace_said, replace_there, replace_whole}
use Rattle.meson_places.specs.SaidElements.{elements_left, lists_edited, says_one, value_left}
use Rattle.meson_places.specs.Slots.{Child}
use Rattle.meson_places.specs.ValueLists.{ValueList, lists_of}
use Rattle.meson_places.proofs.GivenWritten.{given_level, given_written}
use Rattle.meson_places.proofs.ListsThere.{element_there}
use Rattle.meson_places.proofs.AssignedDoable.{assigned_left}
use Rattle.meson_places.proofs.SaidDoable.{assigned_how, ListsExchange, ListsLose, LoneGoes, lone_how, removed_how, replaced_how, said_how}
use Rattle.meson_places.proofs.SetValues.{deletes_one_element, set_one}
use Rattle.meson_places.proofs.ValuesEdited.{ValueEdited, elements_become, elements_go}

-- the trees after steps are those that these steps make
edited_now : (c : CallRef) (now : Expression Nowhere) (some steps : List Step) (before after : List Plain) → ValueEdited c now some before → some ≡ steps → all_stepped steps before ≡ Some after → ExpressionIs c now before after
edited_now c now some steps before after v are done =
    let both : Some v.after ≡ Some after = sym v.done.made ∙ ap (λ ss. all_stepped ss before) are ∙ done in
    let same : v.after ≡ after = cc in
    subst (ExpressionIs c now before) same v.is

module _ (l : Loaded) (is : IsProject l) (steps : List Step) (after : List Plain) (done : all_stepped steps (plain_trees l) ≡ Some after) where
  abbrev before : List Plain
  before = plain_trees l

  -- ---- removed

  module _ (gs : List Given) (key : List ℕ) where
    lists_lost : (c : CallRef) (e : Expression Span) → expression_at (project l) c ≡ Some e → ListsLose (bytes_at c.file l.files) gs (lists_of c e) steps → ListsLost l gs c e before after
    lists_lost c e at_ k = record {
      all_said = k.all_said;
      now = edited_now c _ _ steps before after (elements_go l is c e at_ (says_one (bytes_at c.file l.files) gs)) k.are done;
    }

    from_left : (c : CallRef) (e : Expression Span) → expression_at (project l) c ≡ Some e → (gone : Result (List Step) Refusal) → (Left : Type 0) → (LoneGoes (bytes_at c.file l.files) gs gone e steps → Left) → remove_from l key gs gone c e ≡ Ok steps
        → ListsLost l gs c e before after ⊎ Left
    from_left c e at_ gone Left other made = go (removed_how key (bytes_at c.file l.files) gs gone e (lists_of c e) steps made)
      where
        go : ListsLose (bytes_at c.file l.files) gs (lists_of c e) steps ⊎ LoneGoes (bytes_at c.file l.files) gs gone e steps → ListsLost l gs c e before after ⊎ Left
        go (inl k) = inl (lists_lost c e at_ k)
        go (inr k) = inr (other k)

    pub element_removed : (list : CallRef) (n : ℕ) → remove_steps l gs key (slot.Element list n) ≡ Ok steps → ElementRemoved l gs list n before after
    element_removed list n made = go (element_child (project l) list n) refl made
      where
        alone : List Step
        alone = step_in list (Remove list.path.steps n) ∷ []

        go : (o : Option (Child Span)) → element_child (project l) list n ≡ o → remove_there l gs key list n o ≡ Ok steps → ElementRemoved l gs list n before after
        go None at_ m = absurd (let no : ⊥ = cc in no)
        go (Some v) at_ m = record {
          value = v;
          is_value = at_;
          removed = from_left (child list v.number) v.value (element_there (project l) list n v at_).at_child (Ok alone) (LoneLost l gs list n v.value before after)
              (λ k. record { all_said = k.all_said; now = deletes_one_element list n steps k.are before after done }) m;
        }

    pub whole_removed : (c : CallRef) → remove_steps l gs key (slot.Whole c) ≡ Ok steps → WholeRemoved l gs c before after
    whole_removed c made = go (expression_at (project l) c) refl made
      where
        one : (e : Expression Span) → ListsLost l gs c e before after ⊎ ⊥ → ListsLost l gs c e before after
        one e (inl x) = x
        one e (inr never) = absurd never

        go : (o : Option (Expression Span)) → expression_at (project l) c ≡ o → remove_whole l gs key c o ≡ Ok steps → WholeRemoved l gs c before after
        go None at_ m = absurd (let no : ⊥ = cc in no)
        go (Some e) at_ m = record { value = e; is_value = at_; removed = one e (from_left c e at_ (Err NotRemovable) ⊥ (λ k. let is : Err NotRemovable ≡ Ok steps = k.are in let no : ⊥ = cc in no) m) }

  -- ---- replaced

  module _ (was new : Given) (may : MayBeGiven new) (key : List ℕ) where
    lists_exchanged : (c : CallRef) (e : Expression Span) → expression_at (project l) c ≡ Some e → ListsExchange l (bytes_at c.file l.files) (exchange was new may) (lists_of c e) steps → ListsExchanged l was new may c e before after
    lists_exchanged c e at_ k = record {
      was_said = k.was_said;
      is_new = k.is_new;
      now = edited_now c _ _ steps before after
          (elements_become l is c e at_ (says_one (bytes_at c.file l.files) (was ∷ [])) (exchange was new may).written (given_written new may) (given_level new may) k.has_lists k.room) k.are done;
    }

    in_left : (c : CallRef) (e : Expression Span) → expression_at (project l) c ≡ Some e → (otherwise : Result (List Step) Refusal) → (Left : Type 0) → (otherwise ≡ Ok steps → Left) → replace_in l key (exchange was new may) otherwise c e ≡ Ok steps
        → ListsExchanged l was new may c e before after ⊎ Left
    in_left c e at_ otherwise Left other made = go (replaced_how l key (bytes_at c.file l.files) (exchange was new may) otherwise (lists_of c e) steps made)
      where
        go : ListsExchange l (bytes_at c.file l.files) (exchange was new may) (lists_of c e) steps ⊎ (otherwise ≡ Ok steps) → ListsExchanged l was new may c e before after ⊎ Left
        go (inl k) = inl (lists_exchanged c e at_ k)
        go (inr k) = inr (other k)

    pub element_replaced : (list : CallRef) (n : ℕ) → exchange_steps l (exchange was new may) key (slot.Element list n) ≡ Ok steps → ElementReplaced l was new list n before after
    element_replaced list n made = go (element_child (project l) list n) refl made
      where
        go : (o : Option (Child Span)) → element_child (project l) list n ≡ o → replace_there l (exchange was new may) key list n o ≡ Ok steps → ElementReplaced l was new list n before after
        go None at_ m = absurd (let no : ⊥ = cc in no)
        go (Some v) at_ m = record {
          may = may;
          value = v;
          is_value = at_;
          replaced = in_left (child list v.number) v.value (element_there (project l) list n v at_).at_child (replace_lone l key (bytes_at list.file l.files) (exchange was new may) list n v.value)
              (LoneExchanged l was new may list n v.value before after)
              (λ k.
              let b = lone_how l key (bytes_at list.file l.files) (exchange was new may) list n v.value steps k in
              record { was_said = b.was_said; now = set_one list n (exchange was new may).written before after (ap (λ ss. all_stepped ss before) b.are ∙ done) }) m;
        }

    pub whole_replaced : (c : CallRef) → exchange_steps l (exchange was new may) key (slot.Whole c) ≡ Ok steps → WholeReplaced l was new c before after
    whole_replaced c made = go (expression_at (project l) c) refl made
      where
        go : (o : Option (Expression Span)) → expression_at (project l) c ≡ o → replace_whole l (exchange was new may) key c o ≡ Ok steps → WholeReplaced l was new c before after
        go None at_ m = absurd (let no : ⊥ = cc in no)
        go (Some e) at_ m = record {
          may = may;
          value = e;
          is_value = at_;
          replaced = in_left c e at_ (if_assigned l key (exchange was new may) c e) (AssignedExchanged l was new may c e before after)
              (λ k.
              let b = assigned_how l key (exchange was new may) c e steps k in
              record { assigned = b.assigned; was_said = b.was_said; now = assigned_left c (exchange was new may).written before after (ap (λ ss. all_stepped ss before) b.are ∙ done) }) m;
        }

-- ---- the laws

pub removes_what_is_said : RemovesWhatIsSaid
removes_what_is_said l is gs c e at_ key steps made after done = go (list_all (lists_say (bytes_at c.file l.files) (lists_of c e)) gs) made
  where
    source : List ℕ
    source = bytes_at c.file l.files

    all : List Step
    all = lists_edited None (says_one source gs) (lists_of c e)

    go : (b : Bool) → (if b then Ok all else Err (NoSuchValue key)) ≡ Ok steps → ExpressionIs c (value_left (elements_left None (says_one source gs)) e) (plain_trees l) after
    go true m = let same : all ≡ steps = cc in edited_now c _ _ steps (plain_trees l) after (elements_go l is c e at_ (says_one source gs)) same done
    go false m = absurd (let no : ⊥ = cc in no)

-- what says a value is in a list
has_lists : (l : Loaded) (key source : List ℕ) (x : Exchange) (ls : List (ValueList Span)) (steps : List Step) → replace_said l key source x ls ≡ Ok steps → is_empty ls ≡ false
has_lists l key source x [] steps made = absurd (let no : ⊥ = cc in no)
has_lists l key source x (one ∷ more) steps made = refl

pub replaces_what_is_said : ReplacesWhatIsSaid
replaces_what_is_said l is was new may c e at_ key steps made after done =
    let source = bytes_at c.file l.files in
    let x = exchange was new may in
    let some = has_lists l key source x (lists_of c e) steps made in
    (lists_exchanged l is steps after done was new may key c e at_ (said_how l key source x (lists_of c e) some steps made)).now
