-- What is met where variables are followed stands where it says: each literal of a list, the file from whose folder it is taken, and each list in which nothing is
-- met.
use Rattle.std.proofs.Common.{◌≡◌, inl, inr, ℕ, zero, suc, ◌+◌, ◌<◌, List, [], ◌∷◌, ◌++◌, refl, sym, ap, subst, ◌∙◌}
use Rattle.std.specs.Prelude.{Bool, true, false, if◌then◌else◌, Option, Some, None, option_and_then, Ok}
use Rattle.std.specs.List.{All}
use Rattle.std.proofs.lemmas.List.Elements.{All-append, All-cons, All-nil}
use Rattle.meson_lex.specs.declared.kinds.Span.{Span}
use Rattle.meson_lex.specs.Literals.{value}
use Rattle.meson_syntax.specs.declared.operator.StringKind.{StringKind}
use Rattle.meson_syntax.specs.Operators.{holds_values, string_kind}
use Rattle.meson_syntax.specs.Paths.{ListIn, expression_on_path, list_in}
use Rattle.meson_syntax.specs.Tree.{Expression, identifier, string, paren, array, call, row, conditional, Operands, no_operands, operand, Listing, listing, plain, named, pair, Arguments, no_arguments, argument, argument_list}
use Rattle.meson_syntax.proofs.paths.Every.{Every}
use Rattle.meson_edit.specs.Edits.{elements}
use Rattle.meson_calls.specs.declared.call.CallName.{CallName}
use Rattle.meson_calls.specs.declared.call.CallRef.{CallRef}
use Rattle.meson_calls.specs.declared.call.Role.TheVariants as role
use Rattle.meson_calls.specs.Calls.{Call, Numbered, keyword, positional}
use Rattle.meson_calls.specs.CallPlaces.{ListThere}
use Rattle.meson_calls.specs.Finding.{the_call}
use Rattle.meson_calls.specs.Loading.{AreParsed, Loaded, project}
use Rattle.meson_calls.specs.NamedArguments.{kwargs_key, rest, sources_key}
use Rattle.meson_calls.specs.Project.{BuildFile, Project, Placed, child, expression_at, nth_file}
use Rattle.meson_calls.proofs.ExpressionsAt.{child_stands, list_here}
use Rattle.meson_variables.specs.Expansion.{is_files, max_followed}
use Rattle.meson_following.specs.Flows.{known_at}
use Rattle.meson_following.specs.Following.{Following, Mark, known, opaque, empty, Stand, Way, element, files_way, follow_by, follow_call, follow_each, follow_known, follow_listing, follow_maker, follow_makers, follow_marks, follow_operands, follow_there, follow_unknown, follow_value, follow_values, follow_variable, hidden, inside, literal_met, met, one_of_places, or_empty, straight, then_follow, unsure_way, within}
use Rattle.meson_following.specs.Lists.{hides, is_list, mixes}
use Rattle.meson_following.specs.Makers.{Known, Maker}
use Rattle.meson_sources.proofs.added.Counts.{plain_count, some_plain}
use Rattle.meson_sources.proofs.added.Homes.{Home}
use Rattle.meson_sources.proofs.met.Standing.{ElementAt, ElementThere, Elements, Operated, StringThere, elements_stand, first_stands, others_stand, row_stands}
use Rattle.meson_sources.proofs.met.Targets.{arguments_stand}
use Rattle.meson_sources.proofs.trees.Elements.{AreLevel, parsed_level}

-- ---- places

-- the expression at a place is an element of a list
pub record ElementOf (p : Project Span) (q : CallRef) (e : Expression Span) : Type 0 where
  pub list : CallRef
  pub number : ℕ
  pub is_place : q ≡ child list number
  pub there : ElementThere p list number e

-- the string at a place is one
pub record StringOf (p : Project Span) (q : CallRef) : Type 0 where
  pub list : CallRef
  pub number : ℕ
  pub is_place : q ≡ child list number
  pub there : StringThere p list number

-- a file of the project
abbrev pub FileThere : Project Span → ℕ → Type 0
FileThere p k = (f : BuildFile Span) × (nth_file p k ≡ Some f)

-- the file of the `files` around it is one, if there is such
abbrev pub FromFile : Project Span → Way → Type 0
FromFile p w = (k : ℕ) → w.files ≡ Some k → FileThere p k

file_of : (p : Project Span) (q : CallRef) (e : Expression Span) → expression_at p q ≡ Some e → FileThere p q.file
file_of p q e = go (nth_file p q.file)
  where
    go : (o : Option (BuildFile Span)) → option_and_then (λ f. expression_on_path f.tree q.path.steps) o ≡ Some e → (f : BuildFile Span) × (o ≡ Some f)
    go None is = absurd cc
    go (Some f) is = (f, refl)

from_files : (p : Project Span) (q : CallRef) (w : Way) (e : Expression Span) → expression_at p q ≡ Some e → FromFile p (files_way q.file w)
from_files p q w e is = λ k same. let number : q.file ≡ k = cc in subst (FileThere p) number (file_of p q e is)

-- an expression stands at a place, and is an element of a list where that is said of it
pub record StandsSo (p : Project Span) (s : Stand) (e : Expression Span) : Type 0 where
  pub is_from : FromFile p s.way
  pub is_at : expression_at p s.place ≡ Some e
  pub in_list : s.listed ≡ true → ElementOf p s.place e

abbrev pub Stands : Project Span → Mark Span → Type 0
Stands p (known i) = FromFile p i.way × (i.listed ≡ true → StringOf p i.place)
Stands p opaque = Unit {0}
Stands p (empty q w) = Home p q

module _ (p : Project Span) (levels : AreLevel p) where
  abbrev Fine : Following Span → Type 0
  Fine f = All (Stands p) f.marks

  one : (m : Mark Span) → Stands p m → All (Stands p) (m ∷ [])
  one m stands = All-cons (Stands p) m [] stands (All-nil (Stands p))

  nothing_known : (fs : List CallRef) → Fine (met opaque fs)
  nothing_known fs = one opaque tt

  then_fine : (f : Following Span) (more : List CallRef → Following Span) → Fine f → ((fs : List CallRef) → Fine (more fs)) → Fine (then_follow f more)
  then_fine f more first later = All-append (Stands p) f.marks (more f.followed).marks first (later f.followed)

  if_fine : (b : Bool) (f : Following Span) (fs : List CallRef) → Fine f → Fine (if b then f else met opaque fs)
  if_fine true f fs fine = fine
  if_fine false f fs fine = nothing_known fs

  -- ---- literals and lists

  literal : (at : Span) (k : StringKind) (x : List ℕ) (s : Stand) (fs : List CallRef) → StandsSo p s (string at k x) → (o : Option (List ℕ))
      → Fine (literal_met at s fs o)
  literal at k x s fs h None = nothing_known fs
  literal at k x s fs h (Some text) = one (known (record { text = text; stands = at; place = s.place; listed = s.listed; way = s.way })) (
    h.is_from,
    λ listed.
        let e = h.in_list listed in record {
          list = e.list;
          number = e.number;
          is_place = e.is_place;
          there = record { there = e.there.there; span = at; kind = k; text = x; is_string = e.there.is_element; values = e.there.values };
        },
  )

  within_fine : (q : CallRef) (w : Way) (f : Following Span) → Fine f → (f.marks ≡ [] → Home p q) → Fine (within q w f)
  within_fine q w f = go f.marks
    where
      go : (ms : List (Mark Span)) → All (Stands p) ms → (ms ≡ [] → Home p q) → All (Stands p) (or_empty q w ms)
      go [] all home = one (empty q w) (home refl)
      go (m ∷ ms) all home = all

  -- an expression that is in no list
  abbrev ChildAt : CallRef → Way → ℕ → Expression Span → Type 0
  ChildAt q w n e = StandsSo p (inside q w n) e

  child_at : (q : CallRef) (w : Way) (n : ℕ) (e : Expression Span) → FromFile p w → expression_at p (child q n) ≡ Some e → ChildAt q w n e
  child_at q w n e from is = record { is_from = from; is_at = is; in_list = λ listed. absurd cc }

  element_at : (q : CallRef) (w : Way) (n : ℕ) (e : Expression Span) → FromFile p w → ElementAt p q n e → StandsSo p (element q w n) e
  element_at q w n e from h = record { is_from = from; is_at = h.is_at; in_list = λ listed. record { list = q; number = n; is_place = refl; there = h.slot } }

  -- ---- an expression, by what a variable gives

  module _ (follow : CallRef → List ℕ → Way → List CallRef → Following Span) (fine : (q : CallRef) (x : List ℕ) (w : Way) (fs : List CallRef) → FromFile p w → Fine (follow q x w fs)) where
    -- a list in which nothing is met holds nothing, or only what was followed before
    home_of : (l : Listing Span) (q : CallRef) (w : Way) (fs : List CallRef) (there : ListThere p q) → there.list.list ≡ l
        → holds_values there.list.bracket ≡ true → (follow_listing (is_list p) follow l q w fs).marks ≡ [] → Home p q
    home_of (listing at trailing no_arguments) q w fs there same values none = record { there = there; holds = inl (ap elements same); values = values }
    home_of (listing at trailing (argument (plain e) more)) q w fs there same values none = record {
      there = there;
      holds = inr (subst (λ (l : Listing Span). 0 < plain_count (elements l)) (sym same) (some_plain (argument_list (argument (plain e) more)) 0 e refl));
      values = values;
    }
    home_of (listing at trailing (argument (named s x e) more)) q w fs there same values none = absurd cc
    home_of (listing at trailing (argument (pair s k e) more)) q w fs there same values none = absurd cc

    home_here : (e : Expression Span) (i : ListIn Span) (q : CallRef) (w : Way) (fs : List CallRef) → expression_at p q ≡ Some e → list_in e ≡ Some i
        → holds_values i.bracket ≡ true → (follow_listing (is_list p) follow i.list q w fs).marks ≡ [] → Home p q
    home_here e i q w fs is is_list values none =
        let here = list_here p q e i is is_list in
        home_of i.list q w fs here.there here.same_list (ap holds_values here.same_bracket ∙ values) none

    mutual
      by : (e : Expression Span) (s : Stand) (fs : List CallRef) → StandsSo p s e → Fine (follow_by (is_list p) follow e s fs)
      by (string at k x) s fs h = literal at k x s fs h (value (string_kind k) x)
      by (array l) s fs h =
          within_fine s.place s.way (follow_listing (is_list p) follow l s.place s.way fs)
          (in_listing l s.place s.way fs h.is_from (elements_stand p levels s.place (array l) _ h.is_at refl refl)) (home_here (array l) _ s.place s.way fs h.is_at refl refl)
      by (call at f l) s fs h =
          let w = files_way s.place.file s.way in
          if_fine (is_files f.text l) (within s.place w (follow_listing (is_list p) follow l s.place w fs)) fs
          (within_fine s.place w (follow_listing (is_list p) follow l s.place w fs)
          (in_listing l s.place w fs (from_files p s.place s.way (call at f l) h.is_at) (elements_stand p levels s.place (call at f l) _ h.is_at refl refl)) (home_here (call at f l) _ s.place w fs h.is_at refl refl))
      by (identifier at x) s fs h = fine s.place x s.way fs h.is_from
      by (paren at e) s fs h = by e (inside s.place s.way 0) fs (child_at s.place s.way 0 e h.is_from (child_stands p s.place (paren at e) h.is_at 0 e refl))
      by (conditional at c y n) s fs h =
          let w = unsure_way s.way in
          let it = conditional at c y n in
          then_fine (follow_by (is_list p) follow y (inside s.place w 1) fs) (λ now. follow_by (is_list p) follow n (inside s.place w 2) now)
          (by y (inside s.place w 1) fs (child_at s.place w 1 y h.is_from (child_stands p s.place it h.is_at 1 y refl)))
          (λ now. by n (inside s.place w 2) now (child_at s.place w 2 n h.is_from (child_stands p s.place it h.is_at 2 n refl)))
      by (row at e os) s fs h =
          if_fine (is_list p s.place (row at e os))
          (then_follow (follow_by (is_list p) follow e (inside s.place s.way 0) fs) (λ now. follow_operands (is_list p) follow os 1 s.place s.way now)) fs
          (then_fine (follow_by (is_list p) follow e (inside s.place s.way 0) fs) (λ now. follow_operands (is_list p) follow os 1 s.place s.way now)
          (by e (inside s.place s.way 0) fs (child_at s.place s.way 0 e h.is_from (child_stands p s.place (row at e os) h.is_at 0 e refl)))
          (λ now. in_operands os 1 s.place s.way now h.is_from (row_stands p s.place at e os h.is_at)))
      by _ s fs h = nothing_known fs

      in_operands : (os : Operands Span) (n : ℕ) (q : CallRef) (w : Way) (fs : List CallRef) → FromFile p w → Operated p q n os → Fine (follow_operands (is_list p) follow os n q w fs)
      in_operands no_operands n q w fs from there = All-nil (Stands p)
      in_operands (operand o e more) n q w fs from there =
          then_fine (follow_by (is_list p) follow e (inside q w n) fs) (λ now. follow_operands (is_list p) follow more (n + 1) q w now)
          (by e (inside q w n) fs (child_at q w n e from there.0)) (λ now. in_operands more (n + 1) q w now from there.1)

      in_listing : (l : Listing Span) (q : CallRef) (w : Way) (fs : List CallRef) → FromFile p w → Elements p q 0 (elements l) → Fine (follow_listing (is_list p) follow l q w fs)
      in_listing (listing at trailing list) q w fs from there = in_each list 0 q w fs from there

      in_each : (list : Arguments Span) (n : ℕ) (q : CallRef) (w : Way) (fs : List CallRef) → FromFile p w → Elements p q n (argument_list list) → Fine (follow_each (is_list p) follow list n q w fs)
      in_each no_arguments n q w fs from there = All-nil (Stands p)
      in_each (argument (plain e) more) n q w fs from there =
          then_fine (follow_by (is_list p) follow e (element q w n) fs) (λ now. follow_each (is_list p) follow more (n + 1) q w now)
          (by e (element q w n) fs (element_at q w n e from (first_stands p (plain e) more n q there e refl)))
          (λ now. in_each more (n + 1) q w now from (others_stand p (plain e) more n q there))
      in_each (argument (named s x e) more) n q w fs from there =
          then_fine (met opaque fs) (λ now. follow_each (is_list p) follow more (n + 1) q w now) (nothing_known fs)
          (λ now. in_each more (n + 1) q w now from (others_stand p (named s x e) more n q there))
      in_each (argument (pair s k e) more) n q w fs from there =
          then_fine (met opaque fs) (λ now. follow_each (is_list p) follow more (n + 1) q w now) (nothing_known fs)
          (λ now. in_each more (n + 1) q w now from (others_stand p (pair s k e) more n q there))

  -- ---- a variable, by what an expression holds

  module _ (inner : Expression Span → Stand → List CallRef → Following Span) (w : Way) (from : FromFile p w)
      (good : (e : Expression Span) (s : Stand) (fs : List CallRef) → StandsSo p s e → Fine (inner e s fs)) where
    of_value : (m : Maker Span) (o : Option (Expression Span)) (fs : List CallRef) → expression_at p m.value.place ≡ o → Fine (follow_there p inner w m o fs)
    of_value m None fs is = nothing_known fs
    of_value m (Some e) fs is = good e _ fs (record { is_from = from; is_at = is; in_list = λ listed. absurd cc })

    of_maker : (mixed : Bool) (m : Maker Span) (fs : List CallRef) → Fine (follow_maker p inner w mixed m fs)
    of_maker mixed m fs =
        once_more (one_of_places fs m.value.place) (hidden_or (hides p mixed m) (of_value m (expression_at p m.value.place) (fs ++ m.value.place ∷ []) refl))
      where
        hidden_or : (b : Bool) → Fine (follow_there p inner w m (expression_at p m.value.place) (fs ++ m.value.place ∷ []))
            → Fine (if b then met opaque fs else follow_there p inner w m (expression_at p m.value.place) (fs ++ m.value.place ∷ []))
        hidden_or true there = nothing_known fs
        hidden_or false there = there

        once_more : (b : Bool) → Fine (follow_value p inner w mixed m fs) → Fine (if b then record { marks = []; followed = fs } else follow_value p inner w mixed m fs)
        once_more true there = All-nil (Stands p)
        once_more false there = there

    of_makers : (mixed : Bool) (ms : List (Maker Span)) (fs : List CallRef) → Fine (follow_makers p inner w mixed ms fs)
    of_makers mixed [] fs = All-nil (Stands p)
    of_makers mixed (m ∷ ms) fs = then_fine (follow_maker p inner w mixed m fs) (λ now. follow_makers p inner w mixed ms now) (of_maker mixed m fs) (λ now. of_makers mixed ms now)

    or_unknown : (b : Bool) (fs : List CallRef) → Fine (follow_unknown b fs)
    or_unknown true fs = nothing_known fs
    or_unknown false fs = All-nil (Stands p)

    of_known : (k : Known Span) (fs : List CallRef) → Fine (follow_known p inner w k fs)
    of_known None fs = nothing_known fs
    of_known (Some k) fs = then_fine (follow_makers p inner w (mixes p k) k.makers fs) (follow_unknown k.unknown) (of_makers (mixes p k) k.makers fs) (or_unknown k.unknown)

  of_variable : (left : ℕ) (q : CallRef) (x : List ℕ) (w : Way) (fs : List CallRef) → FromFile p w → Fine (follow_variable p left q x w fs)
  of_variable zero q x w fs from = nothing_known fs
  of_variable (suc left) q x w fs from =
      of_known (follow_by (is_list p) (follow_variable p left)) w from (by (follow_variable p left) (of_variable left)) (known_at p x q) fs

  -- ---- the sources of a target

  module _ (inner : Expression Span → Stand → List CallRef → Following Span) (w : Way) (good : (e : Expression Span) (s : Stand) (fs : List CallRef) → StandsSo p s e → Fine (inner e s fs))
      (c : CallRef) (listed : Bool) where
    abbrev ArgumentAt : Numbered (Expression Span) → Type 0
    ArgumentAt a = StandsSo p (record { place = child c a.number; listed = listed; way = w }) a.value

    of_values : (list : List (Numbered (Expression Span))) (fs : List CallRef) → Every ArgumentAt list → Fine (follow_values inner w c listed list fs)
    of_values [] fs there = All-nil (Stands p)
    of_values (a ∷ more) fs there =
        then_fine (inner a.value (record { place = child c a.number; listed = listed; way = w }) fs) (λ now. follow_values inner w c listed more now)
        (good a.value _ fs there.0) (λ now. of_values more now there.1)

  of_hidden : (list : List (Numbered (Expression Span))) → All (Stands p) (hidden list)
  of_hidden [] = All-nil (Stands p)
  of_hidden (a ∷ more) = one opaque tt

every_map : {X : Type 0} (P Q : X → Type 0) (f : (x : X) → P x → Q x) (xs : List X) → Every P xs → Every Q xs
every_map P Q f [] all = tt
every_map P Q f (x ∷ xs) all = (f x all.0, every_map P Q f xs all.1)

every_rest : {X : Type 0} (P : X → Type 0) (xs : List X) → Every P xs → Every P (rest xs)
every_rest P [] all = tt
every_rest P (x ∷ xs) all = all.1

pub marks_stand : (old : Loaded) → AreParsed old.files old.parsed → (id : CallName) (c : Placed (Call Span)) → the_call (project old) role.Target id ≡ Ok c
    → All (Stands (project old)) (follow_marks (project old) c)
marks_stand old are id c found =
    let p = project old in
    let levels = parsed_level old.files old.parsed are in
    let inner = follow_by (is_list p) (follow_variable p max_followed) in
    let from_none : FromFile p straight = λ k is. absurd cc in
    let good = by p levels (follow_variable p max_followed) (of_variable p levels max_followed) in
    let there = arguments_stand old are id c found in
    let own = rest (positional c.it) in
    let named_ones = keyword sources_key c.it in
    let plain_at = every_rest (λ a. ElementAt p c.place a.number a.value) (positional c.it) there.without_name in
    All-append (Stands p) (follow_call p c).marks (hidden (keyword kwargs_key c.it))
    (then_fine p levels (follow_values inner straight c.place true own []) (λ now. follow_values inner straight c.place false named_ones now)
    (of_values p levels inner straight good c.place true own []
    (every_map (λ a. ElementAt p c.place a.number a.value) (ArgumentAt p levels inner straight good c.place true)
    (λ a h. element_at p levels c.place straight a.number a.value from_none h) own plain_at))
    (λ now. of_values p levels inner straight good c.place false named_ones now
    (every_map (λ a. expression_at p (child c.place a.number) ≡ Some a.value) (ArgumentAt p levels inner straight good c.place false)
    (λ a is. child_at p levels c.place straight a.number a.value from_none is) named_ones there.of_sources)))
    (of_hidden p levels (keyword kwargs_key c.it))
