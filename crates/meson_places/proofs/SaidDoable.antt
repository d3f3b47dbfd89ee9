-- The steps that remove or replace what says a value: how they are made, and that they may be done one after another.
use Rattle.std.proofs.Common.{◌≡◌, ℕ, true, false, List, [], ◌∷◌, Option, Some, None, Result, Ok, Err, refl, ap, subst, inl, inr}
use Rattle.std.specs.Prelude.{Bool, ◌⊎◌, option_map, if◌then◌else◌}
use Rattle.std.specs.List.{list_all, list_any}
use Rattle.std.proofs.lemmas.List.{append-nil}
use Rattle.meson_lex.specs.declared.kinds.Span.{Span}
use Rattle.meson_splice.specs.Files.{bytes_at}
use Rattle.meson_syntax.specs.Tree.{Expression, Plain}
use Rattle.meson_edit.specs.Edits.{Remove, Replace, is_empty}
use Rattle.meson_calls.specs.declared.call.CallRef.{CallRef}
use Rattle.meson_calls.specs.declared.refusal.Refusal.{Refusal}
use Rattle.meson_calls.specs.declared.refusal.Refusal.TheVariants.{NoSuchValue, NotLiteral, NotRemovable, ThereAlready, TooDeep}
use Rattle.meson_calls.specs.Loading.{IsProject, Loaded, project}
use Rattle.meson_calls.specs.Project.{child, expression_at}
use Rattle.meson_steps.specs.GivenWords.{MayBeGiven}
use Rattle.meson_steps.specs.ListSteps.{AreDoable, none}
use Rattle.meson_steps.specs.ResultLimits.{plain_trees}
use Rattle.meson_steps.specs.Steps.{Step, step_in}
use Rattle.meson_steps.specs.declared.given.Given.{Given}
use Rattle.meson_places.specs.declared.slots.Slot.{Slot}
use Rattle.meson_places.specs.declared.slots.Slot.TheVariants as slot
use Rattle.meson_places.specs.AssignedValues.{assign_steps, assigned_room, is_assigned, is_one_line}
use Rattle.meson_places.specs.Changes.{element_child}
use Rattle.meson_places.specs.Equality.{lists_say, says}
use Rattle.meson_places.specs.Removals.{remove_by, remove_from, remove_steps, remove_there, remove_whole, says_other}
use Rattle.meson_places.specs.Replacements.{Exchange, exchange, exchange_steps, have_room, if_assigned, replace_by, replace_in, replace_lone, replace_said, replace_there, replace_whole}
use Rattle.meson_places.specs.Room.{has_room, list_in_trees}
use Rattle.meson_places.specs.SaidElements.{lists_edited, says_one}
use Rattle.meson_places.specs.Slots.{Child}
use Rattle.meson_places.specs.ValueLists.{ValueList, lists_of}
use Rattle.meson_places.proofs.AssignedDoable.{assign_doable}
use Rattle.meson_places.proofs.ElementsEdited.{Done}
use Rattle.meson_places.proofs.GivenWritten.{given_level, given_written}
use Rattle.meson_places.proofs.LinesWritten.{line_written}
use Rattle.meson_places.proofs.ListsThere.{element_there}
use Rattle.meson_places.proofs.SlotsDoable.{delete_doable, replaced}
use Rattle.meson_places.proofs.ValuesEdited.{elements_become, elements_go}

pub done_alone : (steps : List Step) (trees now : List Plain) → Done steps trees now → AreDoable steps trees
done_alone steps trees now d = subst (λ ss. AreDoable ss trees) (append-nil steps) (d.doable [] (none now))

-- ---- how a removal is made

pub record ListsLose (source : List ℕ) (gs : List Given) (ls : List (ValueList Span)) (steps : List Step) : Type 0 where
  pub has_lists : is_empty ls ≡ false
  pub all_said : list_all (lists_say source ls) gs ≡ true
  pub are : lists_edited None (says_one source gs) ls ≡ steps

pub record LoneGoes (source : List ℕ) (gs : List Given) (gone : Result (List Step) Refusal) (e : Expression Span) (steps : List Step) : Type 0 where
  pub all_said : list_all (λ g. says source g e) gs ≡ true
  pub are : gone ≡ Ok steps

pub removed_how : (key source : List ℕ) (gs : List Given) (gone : Result (List Step) Refusal) (e : Expression Span) (ls : List (ValueList Span)) (steps : List Step) → remove_by key source gs gone e ls ≡ Ok steps
    → ListsLose source gs ls steps ⊎ LoneGoes source gs gone e steps
removed_how key source gs gone e [] steps made = go (list_any (λ g. says source g e) gs) (list_all (λ g. says source g e) gs) refl made
  where
    go : (a b : Bool) → list_all (λ g. says source g e) gs ≡ b → (if a then (if b then gone else Err (NoSuchValue key)) else Err (says_other key e)) ≡ Ok steps → ListsLose source gs [] steps ⊎ LoneGoes source gs gone e steps
    go true true all m = inr (record { all_said = all; are = m })
    go true false all m = absurd (let no : ⊥ = cc in no)
    go false b all m = absurd (let no : ⊥ = cc in no)
removed_how key source gs gone e (l ∷ ls) steps made = go (list_all (lists_say source (l ∷ ls)) gs) refl made
  where
    all_steps : List Step
    all_steps = lists_edited None (says_one source gs) (l ∷ ls)

    go : (b : Bool) → list_all (lists_say source (l ∷ ls)) gs ≡ b → (if b then Ok all_steps else Err (NoSuchValue key)) ≡ Ok steps → ListsLose source gs (l ∷ ls) steps ⊎ LoneGoes source gs gone e steps
    go true all m = inl (record { has_lists = refl; all_said = all; are = let same : all_steps ≡ steps = cc in same })
    go false all m = absurd (let no : ⊥ = cc in no)

-- ---- how a replacement is made

pub record ListsExchange (l : Loaded) (source : List ℕ) (x : Exchange) (ls : List (ValueList Span)) (steps : List Step) : Type 0 where
  pub has_lists : is_empty ls ≡ false
  pub is_new : lists_say source ls x.new ≡ false
  pub was_said : lists_say source ls x.old ≡ true
  pub room : have_room l x.written.node ls ≡ true
  pub are : lists_edited (Some x.written) (says_one source (x.old ∷ [])) ls ≡ steps

pub said_how : (l : Loaded) (key source : List ℕ) (x : Exchange) (ls : List (ValueList Span)) → is_empty ls ≡ false → (steps : List Step) → replace_said l key source x ls ≡ Ok steps → ListsExchange l source x ls steps
said_how l key source x ls some steps made = go (lists_say source ls x.new) (lists_say source ls x.old) (have_room l x.written.node ls) refl refl refl made
  where
    all_steps : List Step
    all_steps = lists_edited (Some x.written) (says_one source (x.old ∷ [])) ls

    go : (a b d : Bool) → lists_say source ls x.new ≡ a → lists_say source ls x.old ≡ b → have_room l x.written.node ls ≡ d
        → (if a then Err ThereAlready else (if b then (if d then Ok all_steps else Err TooDeep) else Err (NoSuchValue key))) ≡ Ok steps → ListsExchange l source x ls steps
    go true b d new old room m = absurd (let no : ⊥ = cc in no)
    go false true true new old room m = record { has_lists = some; is_new = new; was_said = old; room = room; are = let same : all_steps ≡ steps = cc in same }
    go false true false new old room m = absurd (let no : ⊥ = cc in no)
    go false false d new old room m = absurd (let no : ⊥ = cc in no)

pub replaced_how : (l : Loaded) (key source : List ℕ) (x : Exchange) (otherwise : Result (List Step) Refusal) (ls : List (ValueList Span)) (steps : List Step) → replace_by l key source x otherwise ls ≡ Ok steps
    → ListsExchange l source x ls steps ⊎ (otherwise ≡ Ok steps)
replaced_how l key source x otherwise [] steps made = inr made
replaced_how l key source x otherwise (one ∷ more) steps made = inl (said_how l key source x (one ∷ more) refl steps made)

pub record LoneBecomes (l : Loaded) (source : List ℕ) (x : Exchange) (list : CallRef) (n : ℕ) (e : Expression Span) (steps : List Step) : Type 0 where
  pub was_said : says source x.old e ≡ true
  pub room : has_room x.written.node (list_in_trees (plain_trees l) list) ≡ true
  pub are : step_in list (Replace list.path.steps n x.written) ∷ [] ≡ steps

pub lone_how : (l : Loaded) (key source : List ℕ) (x : Exchange) (list : CallRef) (n : ℕ) (e : Expression Span) (steps : List Step) → replace_lone l key source x list n e ≡ Ok steps → LoneBecomes l source x list n e steps
lone_how l key source x list n e steps made = go (says source x.new e) (says source x.old e) (has_room x.written.node (list_in_trees (plain_trees l) list)) refl refl made
  where
    one : List Step
    one = step_in list (Replace list.path.steps n x.written) ∷ []

    go : (a b d : Bool) → says source x.old e ≡ b → has_room x.written.node (list_in_trees (plain_trees l) list) ≡ d
        → (if a then Err ThereAlready else (if b then (if d then Ok one else Err TooDeep) else Err (says_other key e))) ≡ Ok steps → LoneBecomes l source x list n e steps
    go true b d old room m = absurd (let no : ⊥ = cc in no)
    go false true true old room m = record { was_said = old; room = room; are = let same : one ≡ steps = cc in same }
    go false true false old room m = absurd (let no : ⊥ = cc in no)
    go false false d old room m = absurd (let no : ⊥ = cc in no)

pub record AssignedBecomes (l : Loaded) (source : List ℕ) (x : Exchange) (c : CallRef) (e : Expression Span) (steps : List Step) : Type 0 where
  pub assigned : is_assigned (project l) c ≡ true
  pub was_said : says source x.old e ≡ true
  pub room : assigned_room c x.written.node ≡ true
  pub line : is_one_line x.new ≡ true
  pub are : assign_steps c x.written ≡ steps

pub assigned_how : (l : Loaded) (key : List ℕ) (x : Exchange) (c : CallRef) (e : Expression Span) (steps : List Step) → if_assigned l key x c e ≡ Ok steps → AssignedBecomes l (bytes_at c.file l.files) x c e steps
assigned_how l key x c e steps made = go (is_assigned (project l) c) (says (bytes_at c.file l.files) x.new e) (says (bytes_at c.file l.files) x.old e) (assigned_room c x.written.node) (is_one_line x.new) refl refl refl refl made
  where
    go : (f a b d n : Bool) → is_assigned (project l) c ≡ f → says (bytes_at c.file l.files) x.old e ≡ b → assigned_room c x.written.node ≡ d → is_one_line x.new ≡ n
        → (if f then (if a then Err ThereAlready
        else (if b then (if d then (if n then Ok (assign_steps c x.written) else Err (NotLiteral key)) else Err TooDeep) else Err (says_other key e))) else Err (NotLiteral key)) ≡ Ok steps
        → AssignedBecomes l (bytes_at c.file l.files) x c e steps
    go false a b d n there old room line m = absurd (let no : ⊥ = cc in no)
    go true true b d n there old room line m = absurd (let no : ⊥ = cc in no)
    go true false false d n there old room line m = absurd (let no : ⊥ = cc in no)
    go true false true false n there old room line m = absurd (let no : ⊥ = cc in no)
    go true false true true false there old room line m = absurd (let no : ⊥ = cc in no)
    go true false true true true there old room line m = record { assigned = there; was_said = old; room = room; line = line; are = let same : assign_steps c x.written ≡ steps = cc in same }

-- ---- the steps may be done

module _ (old : Loaded) (is : IsProject old) where
  abbrev before : List Plain
  before = plain_trees old

  module _ (gs : List Given) (key : List ℕ) where
    from_doable : (gone : Result (List Step) Refusal) (c : CallRef) (e : Expression Span) → expression_at (project old) c ≡ Some e → (steps : List Step) → (gone ≡ Ok steps → AreDoable steps before) → remove_from old key gs gone c e ≡ Ok steps → AreDoable steps before
    from_doable gone c e at_ steps other made = go (removed_how key (bytes_at c.file old.files) gs gone e (lists_of c e) steps made)
      where
        go : ListsLose (bytes_at c.file old.files) gs (lists_of c e) steps ⊎ LoneGoes (bytes_at c.file old.files) gs gone e steps → AreDoable steps before
        go (inl k) = let v = elements_go old is c e at_ (says_one (bytes_at c.file old.files) gs) in subst (λ ss. AreDoable ss before) k.are (done_alone _ before v.after v.done)
        go (inr k) = other k.are

    pub remove_doable : (s : Slot) → (steps : List Step) → remove_steps old gs key s ≡ Ok steps → AreDoable steps before
    remove_doable (slot.Absent list k) steps made = absurd (let no : ⊥ = cc in no)
    remove_doable (slot.Whole c) steps made = go (expression_at (project old) c) refl made
      where
        go : (o : Option (Expression Span)) → expression_at (project old) c ≡ o → remove_whole old gs key c o ≡ Ok steps → AreDoable steps before
        go None at_ m = absurd (let no : ⊥ = cc in no)
        go (Some e) at_ m = from_doable (Err NotRemovable) c e at_ steps (λ h. absurd (let no : ⊥ = cc in no)) m
    remove_doable (slot.Element list n) steps made = go (element_child (project old) list n) refl made
      where
        alone : List Step
        alone = step_in list (Remove list.path.steps n) ∷ []

        go : (o : Option (Child Span)) → element_child (project old) list n ≡ o → remove_there old gs key list n o ≡ Ok steps → AreDoable steps before
        go None at_ m = absurd (let no : ⊥ = cc in no)
        go (Some v) at_ m =
            let h = element_there (project old) list n v at_ in
            from_doable (Ok alone) (child list v.number) v.value h.at_child steps
            (λ k. delete_doable old is (slot.Element list n) (v.value, ap (option_map (λ (x : Child Span). x.value)) at_) steps k) m

  module _ (was new : Given) (may : MayBeGiven new) (key : List ℕ) where
    abbrev x : Exchange
    x = exchange was new may

    in_doable : (otherwise : Result (List Step) Refusal) (c : CallRef) (e : Expression Span) → expression_at (project old) c ≡ Some e → (steps : List Step) → (otherwise ≡ Ok steps → AreDoable steps before) → replace_in old key x otherwise c e ≡ Ok steps → AreDoable steps before
    in_doable otherwise c e at_ steps other made = go (replaced_how old key (bytes_at c.file old.files) x otherwise (lists_of c e) steps made)
      where
        go : ListsExchange old (bytes_at c.file old.files) x (lists_of c e) steps ⊎ (otherwise ≡ Ok steps) → AreDoable steps before
        go (inl k) =
            let v = elements_become old is c e at_ (says_one (bytes_at c.file old.files) (was ∷ [])) x.written (given_written new may) (given_level new may) k.has_lists k.room in
            subst (λ ss. AreDoable ss before) k.are (done_alone _ before v.after v.done)
        go (inr k) = other k

    pub replace_doable : (s : Slot) → (steps : List Step) → exchange_steps old x key s ≡ Ok steps → AreDoable steps before
    replace_doable (slot.Absent list k) steps made = absurd (let no : ⊥ = cc in no)
    replace_doable (slot.Whole c) steps made = go (expression_at (project old) c) refl made
      where
        go : (o : Option (Expression Span)) → expression_at (project old) c ≡ o → replace_whole old x key c o ≡ Ok steps → AreDoable steps before
        go None at_ m = absurd (let no : ⊥ = cc in no)
        go (Some e) at_ m =
            in_doable (if_assigned old key x c e) c e at_ steps
            (λ k.
            let b = assigned_how old key x c e steps k in
            subst (λ ss. AreDoable ss before) b.are (assign_doable old is c b.assigned x.written (line_written new may b.line) (given_level new may) b.room)) m
    replace_doable (slot.Element list n) steps made = go (element_child (project old) list n) refl made
      where
        go : (o : Option (Child Span)) → element_child (project old) list n ≡ o → replace_there old x key list n o ≡ Ok steps → AreDoable steps before
        go None at_ m = absurd (let no : ⊥ = cc in no)
        go (Some v) at_ m =
            let h = element_there (project old) list n v at_ in
            in_doable (replace_lone old key (bytes_at list.file old.files) x list n v.value) (child list v.number) v.value h.at_child steps
            (λ k.
            let b = lone_how old key (bytes_at list.file old.files) x list n v.value steps k in
            subst (λ ss. AreDoable ss before) b.are (replaced old is x.written (given_written new may) (given_level new may) list n v h b.room)) m
