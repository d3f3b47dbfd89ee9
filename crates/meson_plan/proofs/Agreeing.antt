-- A listing is made and refused as its info command is planned, and so as it is performed.
use Rattle.std.proofs.Common.{◌≡◌, ℕ, List, [], ◌∷◌, Some, arith, refl, sym, ap, ◌∙◌, subst}
use Rattle.std.specs.Prelude.{Result, Ok, Err, length, ok_or, option_map, option_and_then, ◌≤◌}
use Rattle.std.proofs.lemmas.List.Elements.{All-cons, All-nil}
use Rattle.serde_json.specs.Data.{Data}
use Rattle.meson_lex.specs.declared.kinds.Span.{Span}
use Rattle.meson_splice.specs.declared.file_set.File.{File}
use Rattle.meson_splice.specs.declared.splice.Splice.{Splice}
use Rattle.meson_splice.specs.Files.{bytes_at}
use Rattle.meson_splice.specs.Patch.{then_ok}
use Rattle.meson_syntax.specs.declared.tree.Parsed.{Parsed}
use Rattle.meson_syntax.specs.Reads.{max_len}
use Rattle.meson_syntax.specs.Tree.{Expression, call, Plain}
use Rattle.meson_calls.specs.declared.call.CallRef.{CallRef}
use Rattle.meson_calls.specs.declared.call.Reading.{Reading}
use Rattle.meson_calls.specs.declared.call.Role.{Role}
use Rattle.meson_calls.specs.declared.call.Role.TheVariants as role
use Rattle.meson_variables.specs.declared.source.Sources.{Sources}
use Rattle.meson_calls.specs.declared.refusal.Refusal.{Refusal}
use Rattle.meson_calls.specs.declared.refusal.Refusal.TheVariants.{NotFound}
use Rattle.meson_calls.specs.CallPlaces.{call_at}
use Rattle.meson_calls.specs.Calls.{Call, call_of, keyword}
use Rattle.meson_calls.specs.Finding.{the_call}
use Rattle.meson_calls.specs.Loading.{Loaded, AreParsed, IsProject, project}
use Rattle.meson_calls.specs.Project.{Project, Placed, placed}
use Rattle.meson_variables.specs.TargetSources.{sources_of_marks, source_marks, sources, sources_of_call}
use Rattle.meson_calls.specs.NamedArguments.{once, sources_key}
use Rattle.meson_sources.specs.Extras.{extra_files, extra_of_call}
use Rattle.meson_sources.specs.SourceEdits.{extra_key, extra_marks}
use Rattle.meson_steps.specs.declared.argument.ValueName.{ValueName}
use Rattle.meson_steps.specs.declared.command.Command.{Command}
use Rattle.meson_steps.specs.declared.command.Command.TheVariants as command
use Rattle.meson_steps.specs.declared.command.Done.{Done}
use Rattle.meson_steps.specs.Done.{Meaning}
use Rattle.meson_steps.specs.ResultLimits.{AreShallow, AreSmall, plain_trees, saturated}
use Rattle.meson_steps.specs.Steps.{Step, StepsMake, none, step, all_stepped}
use Rattle.meson_steps.proofs.PlainTrees.{parsed_shallow}
use Rattle.meson_calls.proofs.CallsFound.{CallAt, role_found}
use Rattle.meson_details.specs.declared.details.Head.{Head}
use Rattle.meson_details.specs.Details.{head, head_of, keywords, keywords_of_call}
use Rattle.meson_plan.specs.Performing.{MayRefuse, Performs, unplanned, deep, large}
use Rattle.meson_details.specs.Once.{call_told}
use Rattle.meson_plan.specs.Planning.{Means, call_asked, target_told}
use Rattle.meson_listing.specs.Entries.{call_data}
use Rattle.meson_listing.specs.Values.{value_data}
use Rattle.meson_places.proofs.ValuesThere.{values_are_there}
use Rattle.meson_places.specs.NamedValues.{value_place}
use Rattle.meson_plan.specs.ListingLaws.{CallsAgree, CallsListed, DoesNothing, IsListedAs, TargetsAgree, TargetsListed, ValuesListed, no_steps}
use Rattle.meson_plan.specs.Listing as listing
use Rattle.meson_plan.specs.Listing.{kwargs_listing, or_not_found, target_at, target_by, target_listing, value_listing}
use Rattle.meson_plan.specs.Values.{found_at, found_in}

-- ---- the call that is found has a head

pub record HasHead (value : Expression Span) : Type 0 where
  pub told : Head
  pub is_told : head_of value ≡ Some told

pub has_head : (value : Expression Span) (it : Call Span) → call_of value ≡ Some it → HasHead value
has_head (call s f l) it is = record { told = _; is_told = refl }
has_head _ it is = absurd cc

module _ (l : Loaded) (c : Placed (Call Span)) (at : CallAt (project l) c) where
  abbrev p : Project Span
  p = project l

  abbrev pub its_head : HasHead at.value
  its_head = has_head at.value c.it at.is_call

  pub head_is : head p c.place ≡ Some its_head.told
  head_is = ap (option_and_then head_of) at.is_at ∙ its_head.is_told

  call_is : call_at p c.place ≡ Some c
  call_is = ap (λ o. option_map (placed c.place) (option_and_then call_of o)) at.is_at ∙ ap (option_map (placed c.place)) at.is_call

  sources_are : sources p c.place ≡ Some (sources_of_call p c)
  sources_are = ap (option_map (sources_of_call p)) call_is

  pub extras_are : extra_files p c.place ≡ Some (extra_of_call p c)
  extras_are = ap (option_map (extra_of_call p)) call_is

  keywords_are : (r : Role) → keywords l r c.place ≡ Some (keywords_of_call (bytes_at c.place.file l.files) r c.it)
  keywords_are r = ap (option_map (λ (found : Placed (Call Span)). keywords_of_call (bytes_at c.place.file l.files) r found.it)) call_is

  -- ---- a target

  module _ (reading : Reading) where
    abbrev data_of : Sources → Sources → Data
    data_of = target_by l reading c.place its_head.told

    target_is : target_at l reading c.place ≡ Some (then_ok (sources_of_call p c) (λ is. then_ok (extra_of_call p c) (λ xs. Ok (data_of is xs))))
    target_is =
        ap (option_and_then (λ h. option_and_then (λ s. option_map (λ x. then_ok s (λ is. then_ok x (λ xs. Ok (target_by l reading c.place h is xs)))) (extra_files p c.place)) (sources p c.place))) head_is
        ∙ ap (option_and_then (λ s. option_map (λ x. then_ok s (λ is. then_ok x (λ xs. Ok (data_of is xs)))) (extra_files p c.place))) sources_are
        ∙ ap (option_map (λ x. then_ok (sources_of_call p c) (λ is. then_ok x (λ xs. Ok (data_of is xs))))) extras_are

  -- ---- keyword arguments

  call_listing_is : (r : Role) → listing.call_listing l r c.place ≡ Some (then_ok (keywords_of_call (bytes_at c.place.file l.files) r c.it) (λ pairs. Ok (call_data l.files c.place.file its_head.told pairs)))
  call_listing_is r =
      ap (option_and_then (λ h. option_map (λ ks. then_ok ks (λ pairs. Ok (call_data l.files c.place.file h pairs))) (keywords l r c.place))) head_is
      ∙ ap (option_map (λ ks. then_ok ks (λ pairs. Ok (call_data l.files c.place.file its_head.told pairs)))) (keywords_are r)

-- ---- refusals

-- what is told where a keyword is there once at most, and what is refused elsewhere
once_then : {X Y : Type 0} (key : List ℕ) (xs : List X) (y : Y) (f : Y → Result Data Refusal) (rest : Result (List Step) Refusal) → no_steps (f y) ≡ rest → no_steps (then_ok (once key xs y) f) ≡ then_ok (once key xs tt) (λ (u : Unit {0}). rest)
once_then key [] y f rest is = is
once_then key (x ∷ []) y f rest is = is
once_then key (x ∷ z ∷ more) y f rest is = refl

told_then : {X : Type 0} (told : Result (Unit {0}) Refusal) (x : X) (f : X → Data) → no_steps (then_ok (then_ok told (λ _. Ok x)) (λ y. Ok (f y))) ≡ then_ok told (λ _. Ok [])
told_then (Ok u) x f = refl
told_then (Err e) x f = refl

found_then : (found : Result (Placed (Call Span)) Refusal) (told : Placed (Call Span) → Result Data Refusal) (meant : Placed (Call Span) → Result (List Step) Refusal)
    → ((c : Placed (Call Span)) → found ≡ Ok c → no_steps (told c) ≡ meant c) → no_steps (then_ok found told) ≡ then_ok found meant
found_then (Ok c) told meant same = same c refl
found_then (Err e) told meant same = refl

pub targets_agree : TargetsAgree
targets_agree l reading id = found_then (the_call (project l) role.Target id) _ _ (λ c found. here c (role_found (project l) role.Target id c found).at)
  where
    here : (c : Placed (Call Span)) → CallAt (project l) c → no_steps (or_not_found (target_at l reading c.place)) ≡ target_told c.it
    here c at =
        let extra = keyword extra_key c.it in
        let h = (has_head at.value c.it at.is_call).told in
        ap (λ o. no_steps (or_not_found o)) (target_is l c at reading)
        ∙ once_then sources_key (keyword sources_key c.it) (sources_of_marks c.place (source_marks (project l) c)) _ (then_ok (once extra_key extra tt) (λ (u : Unit {0}). Ok []))
        (once_then extra_key extra (sources_of_marks c.place (extra_marks (project l) c)) (λ xs. Ok (target_by l reading c.place h (sources_of_marks c.place (source_marks (project l) c)) xs)) (Ok []) refl)

pub calls_agree : CallsAgree
calls_agree l r id = found_then (the_call (project l) r id) _ _ (λ c found. here c (role_found (project l) r id c found).at)
  where
    here : (c : Placed (Call Span)) → CallAt (project l) c → no_steps (or_not_found (listing.call_listing l r c.place)) ≡ call_asked r c.it
    here c at =
        ap (λ o. no_steps (or_not_found o)) (call_listing_is l c at r)
        ∙ told_then (call_told r c.it) _ (call_data l.files c.place.file (has_head at.value c.it at.is_call).told)

-- a value is reported where its place is found
pub values_agree : (l : Loaded) (n : ValueName) → no_steps (value_listing l n) ≡ then_ok (value_place l n) (λ (c : CallRef). Ok [])
values_agree l n = go (value_place l n) refl
  where
    go : (r : Result CallRef Refusal) → value_place l n ≡ r
        → no_steps (then_ok (then_ok r (λ c. ok_or (found_at l c) NotFound)) (λ v. Ok (value_data l.files v.file v.span.from v.details))) ≡ then_ok r (λ (c : CallRef). Ok [])
    go (Err e) is = refl
    go (Ok c) is =
        let there = values_are_there l n c is in
        ap (λ o. no_steps (then_ok (ok_or (option_map (found_in (bytes_at c.file l.files) c.file) o) NotFound) (λ v. Ok (value_data l.files v.file v.span.from v.details)))) there.1

-- ---- commands that are performed

is_made : (x : Result Data Refusal) (steps : List Step) → no_steps x ≡ Ok steps → (d : Data) × (x ≡ Ok d)
is_made (Ok d) steps is = (d, refl)
is_made (Err e) steps is = absurd cc

is_refused : (x : Result Data Refusal) (e : Refusal) → no_steps x ≡ Err e → x ≡ Err e
is_refused (Ok d) e is = absurd cc
is_refused (Err f) e is = let same : f ≡ e = cc in ap Err same

none_meant : (x : Result Data Refusal) (steps : List Step) → no_steps x ≡ Ok steps → steps ≡ []
none_meant (Ok d) steps is = let same : [] ≡ steps = cc in sym same
none_meant (Err e) steps is = absurd cc

nothing_made : (files last : List File) (steps : List Step) (splices : List Splice) (bytes : ℕ) → StepsMake files steps splices last bytes → steps ≡ [] → last ≡ files
nothing_made files last steps splices bytes (none f) is = refl
nothing_made files last steps splices bytes (step f between g s more here later n laid patched made) is = absurd cc

abbrev Small : File → Type 0
Small f = length f.bytes ≤ max_len

parsed_small : (files : List File) (parsed : List Parsed) → AreParsed files parsed → AreSmall files
parsed_small [] [] are = All-nil Small
parsed_small [] (t ∷ parsed) are = absurd are
parsed_small (f ∷ files) [] are = absurd are
parsed_small (f ∷ files) (t ∷ parsed) are = All-cons Small f files are.0.reads.source.fits (parsed_small files parsed are.1)

same_trees : (l : Loaded) (steps : List Step) (trees : List Plain) → steps ≡ [] → all_stepped steps (plain_trees l) ≡ Some trees → trees ≡ plain_trees l
same_trees l steps trees empty is = let same : Some (plain_trees l) ≡ Some trees = ap (λ s. all_stepped s (plain_trees l)) (sym empty) ∙ is in cc

none_saturated : 0 ≡ saturated 0
none_saturated = omega arith

-- without steps nothing changes, and the limits are those of the files
nothing_done : (l : Loaded) (c : Command) (done : Done) → Means l c (Ok []) → IsProject l → DoesNothing done → Performs l c done l
nothing_done l c done means whole nothing = record {
  made = record { steps = []; are_planned = means; trees = plain_trees l; are_trees = refl; splices = []; files = l.files; bytes = 0; are_done = none l.files };
  shallow = parsed_shallow l.files l.parsed whole.parsed;
  small = parsed_small l.files l.parsed whole.parsed;
  is_change = nothing.no_splices;
  is_untitled = nothing.untitled;
  is_relexed = nothing.nothing_lexed ∙ none_saturated;
  are_files = refl;
  are_trees = refl;
}

listed_as : (l : Loaded) (c : Command) (x : Result Data Refusal) → Means l c (no_steps x) → ((m : Meaning) → Means l c m → no_steps x ≡ m) → IsListedAs l c x
listed_as l c x means agree = record {
  done = λ d done is whole nothing. nothing_done l c done (subst (Means l c) (ap no_steps is) means) whole nothing;
  made = λ done new performs. is_made x performs.made.steps (agree (Ok performs.made.steps) performs.made.are_planned);
  refused = λ e refuses whole. by e refuses whole;
}
  where
    by : (e : Refusal) → MayRefuse l c e → IsProject l → x ≡ Err e
    by e (unplanned f is) whole = is_refused x f (agree (Err f) is)
    by e (deep steps trees is are not_shallow) whole =
        absurd (not_shallow (subst AreShallow (sym (same_trees l steps trees (none_meant x steps (agree (Ok steps) is)) are)) (parsed_shallow l.files l.parsed whole.parsed)))
    by e (large made shallow not_small) whole =
        absurd (not_small (subst AreSmall (sym (nothing_made l.files made.files made.steps made.splices made.bytes made.are_done (none_meant x made.steps (agree (Ok made.steps) made.are_planned)))) (parsed_small l.files l.parsed whole.parsed)))

pub targets_listed : TargetsListed
targets_listed l reading id =
    listed_as l (command.TargetInfo id reading) (target_listing l reading id) (sym (targets_agree l reading id)) (λ m is. targets_agree l reading id ∙ is)

pub calls_listed : CallsListed
calls_listed l r id = listed_as l (command.KwargsInfo r id) (kwargs_listing l r id) (sym (calls_agree l r id)) (λ m is. calls_agree l r id ∙ is)

pub values_listed : ValuesListed
values_listed l n = listed_as l (command.ArgumentInfo n) (value_listing l n) (sym (values_agree l n)) (λ m is. values_agree l n ∙ is)
