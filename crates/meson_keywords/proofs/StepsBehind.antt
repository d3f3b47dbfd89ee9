-- Steps of the code behind those before, and steps that are all that is meant.
use Rattle.meson_keywords.proofs.Words.{◌≡◌, ℕ, true, false, List, [], ◌∷◌, ◌++◌, map, Option, Some, None, refl, sym, ap, ◌∙◌, append_assoc, Bool, OnOk}
use Rattle.meson_keywords.proofs.Words.{option_map, is_some, if◌then◌else◌, Result, Ok, Err, map-append, append-nil, then_ok, Span, Expression, args_view, Arg}
use Rattle.meson_keywords.proofs.Words.{Remove, Numbered, CallRef, Refusal, NotLiteral, bare, AreBehind, AreMeant, step_in, Step, ListStep, add_to_lone}
use Rattle.meson_keywords.proofs.Words.{remove_lone, of_list, of_lone, options_key, ElementKind, found_argument}
use Rattle.meson_keywords.specs.declared.elements.NumberedValue.{NumberedValue}
use Rattle.meson_calls.specs.Calls as calls
use Rattle.meson_keywords.specs.KeywordEdits.{the_value}

-- ---- steps

pub behind_is : (meant : Result (List Step) Refusal) (steps : List Step) (before after : List ListStep) → meant ≡ Ok steps → map Some after ≡ map Some before ++ map bare steps → AreBehind meant before after
behind_is meant steps before after is made = record { steps = steps; is = is; bare = made }

pub behind_result : {E : Type 0} (r : Result (Unit {0}) E) (meant : Result (List Step) Refusal) (steps : List Step) (before after : List ListStep) → meant ≡ Ok steps
    → OnOk r (map Some after ≡ map Some before ++ map bare steps) → OnOk r (AreBehind meant before after)
behind_result (Ok x) meant steps before after is made = behind_is meant steps before after is made
behind_result (Err e) meant steps before after is made = tt

pub then_more : (before mid after : List ListStep) (step : ListStep) (s : Step) (more : List Step) → mid ≡ before ++ step ∷ [] → bare s ≡ Some step → map Some after ≡ map Some mid ++ map bare more
    → map Some after ≡ map Some before ++ map bare (s ∷ more)
then_more before mid after step s more is of made =
    made ∙ ap (λ xs. map Some xs ++ map bare more) is ∙ ap (λ xs. xs ++ map bare more) (map-append Some before (step ∷ []))
    ∙ append_assoc (map Some before) (Some step ∷ []) (map bare more) ∙ ap (λ o. map Some before ++ (o ∷ map bare more)) (sym of)

pub one_more : (before after : List ListStep) (step : ListStep) (s : Step) → after ≡ before ++ step ∷ [] → bare s ≡ Some step → map Some after ≡ map Some before ++ map bare (s ∷ [])
one_more before after step s is of = then_more before after after step s [] is of (sym (append-nil (map Some after)))

pub then_result : {E : Type 0} (r : Result (Unit {0}) E) (before mid after : List ListStep) (step : ListStep) (s : Step) (more : List Step) → mid ≡ before ++ step ∷ [] → bare s ≡ Some step
    → OnOk r (map Some after ≡ map Some mid ++ map bare more) → OnOk r (map Some after ≡ map Some before ++ map bare (s ∷ more))
then_result (Ok x) before mid after step s more is of made = then_more before mid after step s more is of made
then_result (Err e) before mid after step s more is of made = tt

pub none_more : (before after : List ListStep) → after ≡ before → map Some after ≡ map Some before ++ map bare []
none_more before after is = ap (λ xs. map Some xs) is ∙ sym (append-nil (map Some before))

-- steps behind none are all
pub all_meant : (whole meant : Result (List Step) Refusal) (before after : List ListStep) → whole ≡ meant → before ≡ [] → AreBehind meant before after → AreMeant whole after
all_meant whole meant before after is none b = record { steps = b.steps; is = is ∙ b.is; bare = sym (b.bare ∙ ap (λ xs. map Some xs ++ map bare b.steps) none) }

-- ---- the value in hand

module _ (f : Option (Numbered (Expression Span)) → Result (List Step) Refusal) (key given source : List ℕ) (same : given ≡ key) (args : List Arg) (o : Option NumberedValue) (found : the_value given (args_view source args) ≡ Ok (option_map (found_argument source) o)) where
  pub by_value : then_ok (the_value key (args_view source args)) f ≡ f (option_map (found_argument source) o)
  by_value = ap (λ k. then_ok (the_value k (args_view source args)) f) (sym same) ∙ ap (λ r. then_ok r f) found

  pub by_some : (v : NumberedValue) → o ≡ Some v → then_ok (the_value key (args_view source args)) f ≡ f (Some (found_argument source v))
  by_some v is = by_value ∙ ap (λ p. f (option_map (found_argument source) p)) is

  pub by_none : o ≡ None → then_ok (the_value key (args_view source args)) f ≡ f None
  by_none is = by_value ∙ ap (λ p. f (option_map (found_argument source) p)) is

-- ---- a lone value

pub some_there : {X : Type 0} (o : Option X) → is_some o ≡ true → (x : X) × (o ≡ Some x)
some_there None is = absurd cc
some_there (Some x) is = (x, refl)

module _ (c : CallRef) (n : ℕ) (key : List ℕ) where
  pub add_none : (k : ElementKind) (values : List (List ℕ)) (o : Option (List ℕ)) → is_some o ≡ false → add_to_lone c n key k values o ≡ Err (NotLiteral key)
  add_none k values None is = refl
  add_none k values (Some text) is = absurd cc

  pub lone_none : (value : List ℕ) (o : Option (List ℕ)) → is_some o ≡ false → remove_lone c n key value o ≡ Err (NotLiteral key)
  lone_none value None is = refl
  lone_none value (Some text) is = absurd cc

  pub lone_gone : (value : List ℕ) (o : Option (List ℕ)) → calls.is value o ≡ true → remove_lone c n key value o ≡ Ok (step_in c (Remove c.path.steps n) ∷ [])
  lone_gone value None is = absurd cc
  lone_gone value (Some text) is = ap (λ b. Ok (if b then step_in c (Remove c.path.steps n) ∷ [] else [])) is

  pub lone_kept : (value : List ℕ) (o : Option (List ℕ)) → is_some o ≡ true → calls.is value o ≡ false → remove_lone c n key value o ≡ Ok []
  lone_kept value None some is = absurd cc
  lone_kept value (Some text) some is = ap (λ b. Ok (if b then step_in c (Remove c.path.steps n) ∷ [] else [])) is

pub lone_refused : (o : Option (List ℕ)) (steps : List Step) → is_some o ≡ false → of_lone o steps ≡ Err (NotLiteral options_key)
lone_refused None steps is = refl
lone_refused (Some text) steps is = absurd cc

pub lone_taken : (o : Option (List ℕ)) (steps : List Step) → is_some o ≡ true → of_lone o steps ≡ Ok steps
lone_taken None steps is = absurd cc
lone_taken (Some text) steps is = refl

-- ---- the value of default options

pub list_taken : (known : Bool) (steps : List Step) → known ≡ true → of_list known steps ≡ Ok steps
list_taken known steps is = ap (λ b. of_list b steps) is

pub list_refused : (known : Bool) (steps : List Step) → known ≡ false → of_list known steps ≡ Err (NotLiteral options_key)
list_refused known steps is = ap (λ b. of_list b steps) is
