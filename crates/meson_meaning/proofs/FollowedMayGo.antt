-- The sources in lists that a target may have, where variables are followed, are literals that may be left out.
use Rattle.std.proofs.Common.{◌≡◌, ℕ, zero, suc, ◌+◌, List, [], ◌∷◌, ◌++◌, Option, Some, None, refl, ap, subst, ◌∙◌}
use Rattle.std.specs.Prelude.{Bool, true, false, if◌then◌else◌, is_some, Ok}
use Rattle.meson_lex.specs.declared.kinds.Span.{Span}
use Rattle.meson_lex.specs.Literals.{value}
use Rattle.meson_syntax.specs.declared.operator.Bracket.TheVariants as bracket
use Rattle.meson_syntax.specs.Operators.{string_kind}
use Rattle.meson_syntax.specs.Tree.{Expression, identifier, string, paren, array, call, row, conditional, Operands, no_operands, operand, listing, plain, named, pair, Arguments, no_arguments, argument, argument_list}
use Rattle.meson_syntax.proofs.paths.Every.{Every, every-append}
use Rattle.meson_calls.specs.declared.call.CallName.{CallName}
use Rattle.meson_calls.specs.declared.call.CallRef.{CallRef}
use Rattle.meson_calls.specs.declared.call.Role.TheVariants as role
use Rattle.meson_calls.specs.Calls.{Call, Numbered, keyword, positional}
use Rattle.meson_calls.specs.Finding.{the_call}
use Rattle.meson_calls.specs.Loading.{IsProject, Loaded, project}
use Rattle.meson_calls.specs.NamedArguments.{kwargs_key, rest, sources_key}
use Rattle.meson_calls.specs.Project.{Placed, Project, child, expression_at}
use Rattle.meson_calls.proofs.ExpressionsAt.{child_stands}
use Rattle.meson_variables.specs.Expansion.{is_files, max_followed}
use Rattle.meson_following.specs.Flows.{known_at}
use Rattle.meson_following.specs.Following.{Following, Mark, Stand, Way, element, empty, files_way, follow_by, follow_call, follow_each, follow_known, follow_maker, follow_makers, follow_marks, follow_operands, follow_there, follow_unknown, follow_value, follow_values, follow_variable, hidden, inside, known, literal_met, met, one_of_places, opaque, or_empty, straight, then_follow, unsure_way, within}
use Rattle.meson_following.specs.Lists.{hides, is_list, mixes}
use Rattle.meson_following.specs.Makers.{Known, Maker}
use Rattle.meson_sources.specs.Effects.{element_spot}
use Rattle.meson_sources.specs.SourceEdits.{Spot}
use Rattle.meson_sources.proofs.met.Standing.{ElementAt, Elements, Operated, elements_stand, first_stands, others_stand, row_stands}
use Rattle.meson_sources.proofs.met.Targets.{arguments_stand}
use Rattle.meson_sources.proofs.trees.Calls.{called, target_at}
use Rattle.meson_sources.proofs.trees.Elements.{AreLevel, parsed_level}
use Rattle.meson_meaning.specs.Spots.{MayGo, element_may_go, is_literal}
use Rattle.meson_meaning.specs.Without.{each_one, later_ones, loses}
use Rattle.meson_meaning.proofs.MarksMayGo.{MayLeave, each_may, every_rest, every_weaker, files_sort, first_one, from_zero, later_unnamed, level_there, next_ones, target_sort}

-- a place is that of a literal that may be left out of its list
pub record ListedAt (p : Project Span) (q : CallRef) : Type 0 where
  pub spot : Spot
  pub is_there : q ≡ child spot.list spot.number
  pub may : MayGo p spot

module _ (p : Project Span) (levels : AreLevel p) where
  abbrev pub MarkMayGo : Mark Span → Type 0
  MarkMayGo (known i) = i.listed ≡ true → ListedAt p i.place
  MarkMayGo opaque = Unit {0}
  MarkMayGo (empty q w) = Unit {0}

  abbrev Fine : Following Span → Type 0
  Fine f = Every MarkMayGo f.marks

  -- an expression stands at its place, and may be left out of its list if it is a literal in one
  record Here (s : Stand) (e : Expression Span) : Type 0 where
    is_at : expression_at p s.place ≡ Some e
    may : s.listed ≡ true → is_literal e ≡ true → ListedAt p s.place

  then_fine : (f : Following Span) (more : List CallRef → Following Span) → Fine f → ((fs : List CallRef) → Fine (more fs)) → Fine (then_follow f more)
  then_fine f more first later = every-append MarkMayGo f.marks (more f.followed).marks first (later f.followed)

  if_fine : (b : Bool) (f : Following Span) (fs : List CallRef) → (b ≡ true → Fine f) → Fine (if b then f else met opaque fs)
  if_fine true f fs fine = fine refl
  if_fine false f fs fine = (tt, tt)

  within_fine : (q : CallRef) (w : Way) (ms : List (Mark Span)) → Every MarkMayGo ms → Every MarkMayGo (or_empty q w ms)
  within_fine q w [] all = (tt, tt)
  within_fine q w (m ∷ ms) all = all

  literal_fine : (at : Span) (s : Stand) (fs : List CallRef) (o : Option (List ℕ)) → (is_some o ≡ true → s.listed ≡ true → ListedAt p s.place) → Fine (literal_met at s fs o)
  literal_fine at s fs None may = (tt, tt)
  literal_fine at s fs (Some text) may = (may refl, tt)

  inside_here : (q : CallRef) (w : Way) (n : ℕ) (e : Expression Span) → expression_at p (child q n) ≡ Some e → Here (inside q w n) e
  inside_here q w n e is = record { is_at = is; may = λ listed. absurd cc }

  -- ---- an expression, by what a variable gives

  module _ (follow : CallRef → List ℕ → Way → List CallRef → Following Span) (follows : (q : CallRef) (x : List ℕ) (w : Way) (fs : List CallRef) → Fine (follow q x w fs)) where
    mutual
      by : (e : Expression Span) (s : Stand) (fs : List CallRef) → Here s e → Fine (follow_by (is_list p) follow e s fs)
      by (string at k x) s fs h = literal_fine at s fs (value (string_kind k) x) (λ literal listed. h.may listed literal)
      by (array (listing r trailing list)) s fs h =
          within_fine s.place s.way (follow_each (is_list p) follow list 0 s.place s.way fs).marks
          (each_fine list 0 s.place s.way fs (elements_stand p levels s.place (array (listing r trailing list)) _ h.is_at refl refl)
          (λ j e is literal. record {
            list = array (listing r trailing list);
            is_list = h.is_at;
            may =
                ap (element_may_go each_one list) (from_zero j)
                ∙ each_may bracket.Square refl list false (level_there p levels s.place (array (listing r trailing list)) _ h.is_at refl).1 j e is literal;
          }))
      by (call at g (listing r trailing list)) s fs h =
          let w = files_way s.place.file s.way in
          if_fine (is_files g.text (listing r trailing list)) (within s.place w (follow_each (is_list p) follow list 0 s.place w fs)) fs
          (λ files. within_fine s.place w (follow_each (is_list p) follow list 0 s.place w fs).marks
          (each_fine list 0 s.place w fs (elements_stand p levels s.place (call at g (listing r trailing list)) _ h.is_at refl refl)
          (λ j e is literal. record {
            list = call at g (listing r trailing list);
            is_list = h.is_at;
            may =
                ap (λ sort. element_may_go (loses sort) list (0 + j)) (files_sort g.text (listing r trailing list) files)
                ∙ ap (element_may_go each_one list) (from_zero j)
                ∙ each_may bracket.Round refl list false (level_there p levels s.place (call at g (listing r trailing list)) _ h.is_at refl).1 j e is literal;
          })))
      by (identifier at x) s fs h = follows s.place x s.way fs
      by (paren at e) s fs h = by e (inside s.place s.way 0) fs (inside_here s.place s.way 0 e (child_stands p s.place (paren at e) h.is_at 0 e refl))
      by (conditional at c y n) s fs h =
          let w = unsure_way s.way in
          let it = conditional at c y n in
          then_fine (follow_by (is_list p) follow y (inside s.place w 1) fs) (λ now. follow_by (is_list p) follow n (inside s.place w 2) now)
          (by y (inside s.place w 1) fs (inside_here s.place w 1 y (child_stands p s.place it h.is_at 1 y refl)))
          (λ now. by n (inside s.place w 2) now (inside_here s.place w 2 n (child_stands p s.place it h.is_at 2 n refl)))
      by (row at e os) s fs h =
          if_fine (is_list p s.place (row at e os))
          (then_follow (follow_by (is_list p) follow e (inside s.place s.way 0) fs) (λ now. follow_operands (is_list p) follow os 1 s.place s.way now)) fs
          (λ is. then_fine (follow_by (is_list p) follow e (inside s.place s.way 0) fs) (λ now. follow_operands (is_list p) follow os 1 s.place s.way now)
          (by e (inside s.place s.way 0) fs (inside_here s.place s.way 0 e (child_stands p s.place (row at e os) h.is_at 0 e refl)))
          (λ now. operands_fine os 1 s.place s.way now (row_stands p s.place at e os h.is_at)))
      by _ s fs h = (tt, tt)

      operands_fine : (os : Operands Span) (n : ℕ) (q : CallRef) (w : Way) (fs : List CallRef) → Operated p q n os → Fine (follow_operands (is_list p) follow os n q w fs)
      operands_fine no_operands n q w fs there = tt
      operands_fine (operand o e more) n q w fs there =
          then_fine (follow_by (is_list p) follow e (inside q w n) fs) (λ now. follow_operands (is_list p) follow more (n + 1) q w now)
          (by e (inside q w n) fs (inside_here q w n e there.0)) (λ now. operands_fine more (n + 1) q w now there.1)

      each_fine : (list : Arguments Span) (n : ℕ) (q : CallRef) (w : Way) (fs : List CallRef) → Elements p q n (argument_list list) → MayLeave p levels q n (argument_list list)
          → Fine (follow_each (is_list p) follow list n q w fs)
      each_fine no_arguments n q w fs stand may = tt
      each_fine (argument (plain e) more) n q w fs stand may =
          then_fine (follow_by (is_list p) follow e (element q w n) fs) (λ now. follow_each (is_list p) follow more (n + 1) q w now)
          (by e (element q w n) fs
          (record {
            is_at = (first_stands p (plain e) more n q stand e refl).is_at;
            may = λ listed literal. record { spot = element_spot q n; is_there = refl; may = first_one p levels q n e more may literal };
          }))
          (λ now. each_fine more (n + 1) q w now (others_stand p (plain e) more n q stand) (next_ones p levels q n (plain e) more may))
      each_fine (argument (named s x e) more) n q w fs stand may =
          (tt, each_fine more (n + 1) q w fs (others_stand p (named s x e) more n q stand) (next_ones p levels q n (named s x e) more may))
      each_fine (argument (pair s k e) more) n q w fs stand may =
          (tt, each_fine more (n + 1) q w fs (others_stand p (pair s k e) more n q stand) (next_ones p levels q n (pair s k e) more may))

  -- ---- a variable, by what an expression holds

  module _ (inner : Expression Span → Stand → List CallRef → Following Span) (w : Way) (good : (e : Expression Span) (s : Stand) (fs : List CallRef) → Here s e → Fine (inner e s fs)) where
    of_value : (m : Maker Span) (o : Option (Expression Span)) (fs : List CallRef) → expression_at p m.value.place ≡ o → Fine (follow_there p inner w m o fs)
    of_value m None fs is = (tt, tt)
    of_value m (Some e) fs is = good e _ fs (record { is_at = is; may = λ listed. absurd cc })

    of_maker : (mixed : Bool) (m : Maker Span) (fs : List CallRef) → Fine (follow_maker p inner w mixed m fs)
    of_maker mixed m fs = once_more (one_of_places fs m.value.place) (hidden_or (hides p mixed m) (of_value m (expression_at p m.value.place) (fs ++ m.value.place ∷ []) refl))
      where
        hidden_or : (b : Bool) → Fine (follow_there p inner w m (expression_at p m.value.place) (fs ++ m.value.place ∷ []))
            → Fine (if b then met opaque fs else follow_there p inner w m (expression_at p m.value.place) (fs ++ m.value.place ∷ []))
        hidden_or true there = (tt, tt)
        hidden_or false there = there

        once_more : (b : Bool) → Fine (follow_value p inner w mixed m fs) → Fine (if b then record { marks = []; followed = fs } else follow_value p inner w mixed m fs)
        once_more true there = tt
        once_more false there = there

    of_makers : (mixed : Bool) (ms : List (Maker Span)) (fs : List CallRef) → Fine (follow_makers p inner w mixed ms fs)
    of_makers mixed [] fs = tt
    of_makers mixed (m ∷ ms) fs = then_fine (follow_maker p inner w mixed m fs) (λ now. follow_makers p inner w mixed ms now) (of_maker mixed m fs) (λ now. of_makers mixed ms now)

    or_unknown : (b : Bool) (fs : List CallRef) → Fine (follow_unknown b fs)
    or_unknown true fs = (tt, tt)
    or_unknown false fs = tt

    of_known : (k : Known Span) (fs : List CallRef) → Fine (follow_known p inner w k fs)
    of_known None fs = (tt, tt)
    of_known (Some k) fs = then_fine (follow_makers p inner w (mixes p k) k.makers fs) (follow_unknown k.unknown) (of_makers (mixes p k) k.makers fs) (or_unknown k.unknown)

  of_variable : (left : ℕ) (q : CallRef) (x : List ℕ) (w : Way) (fs : List CallRef) → Fine (follow_variable p left q x w fs)
  of_variable zero q x w fs = (tt, tt)
  of_variable (suc left) q x w fs = of_known (follow_by (is_list p) (follow_variable p left)) w (by (follow_variable p left) (of_variable left)) (known_at p x q) fs

  -- ---- the sources of a target

  module _ (inner : Expression Span → Stand → List CallRef → Following Span) (good : (e : Expression Span) (s : Stand) (fs : List CallRef) → Here s e → Fine (inner e s fs)) (c : CallRef) (listed : Bool) where
    of_values : (as_given : List (Numbered (Expression Span))) (fs : List CallRef) → Every (λ a. expression_at p (child c a.number) ≡ Some a.value) as_given
        → Every (λ a. is_literal a.value ≡ true → listed ≡ true → MayGo p (element_spot c a.number)) as_given → Fine (follow_values inner straight c listed as_given fs)
    of_values [] fs there may = tt
    of_values (a ∷ more) fs there may =
        then_fine (inner a.value (record { place = child c a.number; listed = listed; way = straight }) fs) (λ now. follow_values inner straight c listed more now)
        (good a.value _ fs
        (record { is_at = there.0; may = λ is literal. record { spot = element_spot c a.number; is_there = refl; may = may.0 literal is } }))
        (λ now. of_values more now there.1 may.1)

  never_listed : (c : CallRef) (as_given : List (Numbered (Expression Span))) → Every (λ a. is_literal a.value ≡ true → false ≡ true → MayGo p (element_spot c a.number)) as_given
  never_listed c [] = tt
  never_listed c (a ∷ more) = ((λ literal listed. absurd cc), never_listed c more)

  of_hidden : (as_given : List (Numbered (Expression Span))) → Every MarkMayGo (hidden as_given)
  of_hidden [] = tt
  of_hidden (a ∷ more) = (tt, tt)

pub followed_may : (old : Loaded) → (is : IsProject old) → (id : CallName) (c : Placed (Call Span)) → the_call (project old) role.Target id ≡ Ok c
    → Every (MarkMayGo (project old) (parsed_level old.files old.parsed is.parsed)) (follow_marks (project old) c)
followed_may old is id c found =
    let p = project old in
    let levels = parsed_level old.files old.parsed is.parsed in
    let t = target_at p id c found in
    let it = call t.it.span t.it.name (listing t.it.brackets t.it.trailing t.it.arguments) in
    let there = arguments_stand old is.parsed id c found in
    let sort = target_sort t.it.name.text (listing t.it.brackets t.it.trailing t.it.arguments) t.is_target t.has_first in
    let may : Every (λ a. is_literal a.value ≡ true → MayGo p (element_spot c.place a.number)) (rest (positional (called t.it).it)) =
    later_unnamed bracket.Round refl t.it.arguments false (level_there p levels c.place it _ t.it.at refl).1 0 (λ n. MayGo p (element_spot c.place n))
    (λ j goes. record { list = it; is_list = t.it.at; may = ap (λ s. element_may_go (loses s) t.it.arguments (0 + j)) sort ∙ ap (element_may_go later_ones t.it.arguments) (from_zero j) ∙ goes }) in
    let may_here : Every (λ a. is_literal a.value ≡ true → MayGo p (element_spot c.place a.number)) (rest (positional c.it)) =
    subst (λ (d : Placed (Call Span)). Every (λ a. is_literal a.value ≡ true → MayGo p (element_spot c.place a.number)) (rest (positional d.it))) t.is may in
    let stand = every_rest (λ a. expression_at p (child c.place a.number) ≡ Some a.value) (positional c.it)
    (every_weaker (λ a. ElementAt p c.place a.number a.value) (λ a. expression_at p (child c.place a.number) ≡ Some a.value) (λ a h. h.is_at) (positional c.it) there.without_name) in
    let inner = follow_by (is_list p) (follow_variable p max_followed) in
    let good = by p levels (follow_variable p max_followed) (of_variable p levels max_followed) in
    let own = rest (positional c.it) in
    let others = keyword sources_key c.it in
    every-append (MarkMayGo p levels) (follow_call p c).marks (hidden (keyword kwargs_key c.it))
    (then_fine p levels (follow_values inner straight c.place true own []) (λ now. follow_values inner straight c.place false others now)
    (of_values p levels inner good c.place true own [] stand
    (every_weaker (λ a. is_literal a.value ≡ true → MayGo p (element_spot c.place a.number)) (λ a. is_literal a.value ≡ true → true ≡ true → MayGo p (element_spot c.place a.number)) (λ a goes literal listed. goes literal) own may_here))
    (λ now. of_values p levels inner good c.place false others now there.of_sources (never_listed p levels c.place others)))
    (of_hidden p levels (keyword kwargs_key c.it))
