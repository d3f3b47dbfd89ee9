-- What is met in a call after another list has got strings.
use Rattle.meson_syntax.specs.Paths as paths
use Rattle.meson_syntax.specs.declared.operator.Bracket.TheVariants as bracket
use Rattle.meson_sources.proofs.Words.{All, ◌⊎◌, [], ap, Bool, false, inl, inr, IsUtf8, length, List, None, Option, refl, Some, subst, sym, true, ℕ, ◌++◌, ◌∙◌}
use Rattle.meson_sources.proofs.Words.{◌∷◌, ◌≡◌, ◌≤◌, bytes_eq-Decides, Span, a_block, a_statement, an_expression, Any, arguments_parts, block_of, nth}
use Rattle.meson_sources.proofs.Words.{Argument, Arguments, arguments_of, array, assign, call, dictionary, erase_name, Expression, Listing, listing, Name}
use Rattle.meson_sources.proofs.Words.{Nowhere, Plain, child_nodes, node_at, some-injective, Every, and-then-some, IsProject, Loaded, project, BuildFile, child}
use Rattle.meson_sources.proofs.Words.{expression_at, nth_file, Placed, one_of, target_functions, CallRef, expand_by, Expansion, fixed, is_files, is_operand_by}
use Rattle.meson_sources.proofs.Words.{is_value_by, Mark, max_followed, met, opaque, Stand, single, MayStandBetween, plain_trees, Differ, strings, file_names}
use Rattle.meson_sources.proofs.added.Homes.{all_stand}
use Rattle.meson_sources.proofs.added.Turns.{ListTurns, Turn, an_array, a_call as call_turn, a_dictionary, below_first, new_list, none_by_files, none_by_level}
use Rattle.meson_sources.proofs.added.Turns.{old_list}
use Rattle.meson_sources.proofs.met.Arguments.{keys_same, list_with, as_sources, as_whole, same_keys, keyed, key_blanks}
use Rattle.meson_sources.proofs.met.Expressions.{files_alike, operand_alike}
use Rattle.meson_sources.proofs.met.Files.{FileKind, GoesTo, met_in, not_clear, of_extras, FilesGrown, answered_alike}
use Rattle.meson_sources.proofs.met.GrownLists.{array_brings, call_brings, files_stay}
use Rattle.meson_sources.proofs.met.Marks.{values_of, expand_with}
use Rattle.meson_sources.proofs.met.Outcomes.{gist, Grows, Clear, Either, as_before, grown, How, stays, comes, Outcome, Along, along_same, opaque_both}
use Rattle.meson_sources.proofs.met.Ways.{node_level, placed_of, kin_v, kin_c, always, arguments_above, far_call, becomes_same, node_below, kin_x, KinV}
use Rattle.meson_sources.proofs.met.Ways.{call_above, level_v, opaque_call}
use Rattle.meson_sources.proofs.told.NamedAgain.{KeepsNames, named_stays}
use Rattle.meson_sources.proofs.told.Staying.{Alike, calls_alike, grown_tells, array_told, call_told, told_along}
use Rattle.meson_sources.proofs.told.Targets.{node_tells}
use Rattle.meson_sources.proofs.told.Variables.{target_no_files, files_names, files_no_matter, files_no_target}
use Rattle.meson_sources.proofs.trees.Calls.{CallIn, CallNode, bare_arguments, bare_form, called, stands_bare}
use Rattle.meson_sources.proofs.trees.Places.{expression_node, below, below_child, below_itself, no_statement, node_between, owner, owner_is, single_named, Far}
use Rattle.meson_sources.proofs.trees.Places.{IsIt, far_deeper, far_apart, aside_far, above_it, under, without_last, below_steps}
use Rattle.meson_sources.proofs.trees.Scenes.{NodeIn, names_of, node_above, next_in, node_away, same_places}
use Rattle.meson_sources.proofs.trees.Shapes.{a_call, shape, Becomes, became_new, became_old}
use Rattle.meson_sources.proofs.trees.Skeletons.{blanks}

-- ==== The sources or extra files of a call after another list has got strings.

-- ---- the call, by its shape

pub record CallOf (x : Any Nowhere) (f : List ℕ) (bs : List (Argument Nowhere)) : Type 0 where
  pub r : Nowhere
  pub name : Name Nowhere
  pub z : Nowhere
  pub trailing : Bool
  pub list : Arguments Nowhere
  pub is : x ≡ an_expression (call r name (listing z trailing list))
  pub same_name : name.text ≡ f
  pub same_blanks : blanks list ≡ bs

pub call_shape : (x : Any Nowhere) (f : List ℕ) (bs : List (Argument Nowhere)) → shape x ≡ a_call f bs → CallOf x f bs
call_shape (an_expression (call r g (listing z t ys))) f bs is = record { r = r; name = g; z = z; trailing = t; list = ys; is = refl; same_name = let s : g.text ≡ f = cc in s; same_blanks = let s : blanks ys ≡ bs = cc in s }
call_shape (an_expression _) f bs is = absurd cc
call_shape (a_statement (assign r x a e)) f bs is = absurd cc
call_shape (a_statement _) f bs is = absurd cc
call_shape (a_block b) f bs is = absurd cc

-- ---- values of variables do not stand in calls

pub outside : (old : Loaded) (c : CallRef) (value : Expression Span) → expression_at (project old) c ≡ Some value → (x : List ℕ) (v : Placed (Expression Span)) → single (project old) x ≡ Some v
    → (m : ℕ) (rest : List ℕ) → v.place ≡ below c (m ∷ rest) → ⊥
outside old c value at x v is m rest within =
    let s = single_named (project old) x v is in
    let a = s.2 in
    let places : child s.0 0 ≡ below c (m ∷ rest) = sym s.1 ∙ within in
    let same_file : s.0.file ≡ c.file = ap (λ (q : CallRef). q.file) places in
    let w = without_last s.0.path.steps c.path.steps rest 0 m (ap (λ (q : CallRef). q.path.steps) places) in
    let o = and-then-some (λ (g : BuildFile Span). paths.expression_on_path g.tree c.path.steps) (nth_file (project old) c.file) value at in
    let file_is : o.0 ≡ a.file = some-injective _ _ (sym o.1 ∙ ap (nth_file (project old)) (sym same_file) ∙ a.is_file) in
    let there = expression_node Span o.0.tree c.path.steps value o.2 in
    no_statement w.0 value _ (sym (node_between c.path.steps w.0 (a_block (block_of o.0.tree)) (an_expression value) there) ∙ ap (node_at (a_block (block_of o.0.tree))) (sym w.1)
    ∙ ap (λ (g : BuildFile Span). node_at (a_block (block_of g.tree)) s.0.path.steps) file_is ∙ a.is_node)

-- ---- whose value holds the list

text_or : Option (List ℕ) → List ℕ
text_or None = []
text_or (Some x) = x

module _ (old : Loaded) (h : CallRef) (file : BuildFile Span) (is_file : nth_file (project old) h.file ≡ Some file) where
  pub holder : List ℕ
  unfolding text_or
  holder = text_or (owner (a_block (block_of file.tree)) h.path.steps)

  pub holds_it : (x : List ℕ) (v : Placed (Expression Span)) → single (project old) x ≡ Some v → (rest : List ℕ) → h ≡ below v.place rest → x ≡ holder
  unfolding text_or holder
  holds_it x v is rest leads =
      let s = single_named (project old) x v is in
      let a = s.2 in
      let to : h ≡ below s.0 (0 ∷ rest) = leads ∙ ap (λ q. below q rest) s.1 ∙ below_child s.0 0 rest in
      let file_is : a.file ≡ file = some-injective _ _ (sym a.is_file ∙ ap (nth_file (project old)) (sym (ap (λ (q : CallRef). q.file) to)) ∙ is_file) in
      let node = ap (λ (g : BuildFile Span). node_at (a_block (block_of g.tree)) s.0.path.steps) (sym file_is) ∙ a.is_node in
      let owned = owner_is s.0.path.steps 0 rest (a_block (block_of file.tree)) a.span a.name a.how a.value node in
      let name : holder ≡ a.name.text = ap text_or (ap (owner (a_block (block_of file.tree))) (ap (λ (q : CallRef). q.path.steps) to) ∙ owned) in
      sym ((bytes_eq-Decides a.name.text x).0 a.is_name) ∙ sym name

-- ---- after the addition

-- the call at the place, with the new files
pub record CallGrows (what : FileKind) (new_texts : List (List ℕ)) (old new : Loaded) (c : CallRef) (xs : Arguments Nowhere) : Type 0 where
  pub list : Arguments Nowhere
  pub node : CallNode (plain_trees new) c list
  pub same_blanks : blanks list ≡ blanks xs
  pub grows : Grows new_texts (gist (met_in what (project old) c xs).marks) (gist (met_in what (project new) c list).marks)

module _ (what : FileKind) (new_texts : List (List ℕ)) (old new : Loaded) (names : names_of new.files ≡ names_of old.files) (h : CallRef) (tree now : Plain) (was : nth (plain_trees old) h.file ≡ Some tree) (is_now : nth (plain_trees new) h.file ≡ Some now)
    (others : (i : ℕ) → (h.file ≡ i → ⊥) → nth (plain_trees new) i ≡ nth (plain_trees old) i) (older newer : Expression Nowhere)
    (becomes : Becomes (an_expression older) (an_expression newer) h.path.steps (a_block (block_of tree)) (a_block (block_of now))) (stand : All MayStandBetween (plain_trees old))
    (places : (x : List ℕ) → placed_of (single (project new) x) ≡ placed_of (single (project old) x)) (file : BuildFile Span) (is_file : nth_file (project old) h.file ≡ Some file)
    (kind : (holds holds2 : List ℕ → Bool) → is_operand_by holds2 newer ≡ is_operand_by holds older) (value_kind : (m m2 : Expression Nowhere → Bool) → is_value_by m2 newer ≡ is_value_by m older)
    (base : (bad : CallRef → Type 0) (seen : List (List ℕ) → Bool) (holds holds2 : List ℕ → Bool) (alike : (x : List ℕ) → holds2 x ≡ holds x) (follow follow2 : List ℕ → List (List ℕ) → Expansion Nowhere)
    → ((x : List ℕ) (f : List (List ℕ)) → one_of f x ≡ false → Outcome new_texts bad seen f (follow x f) (follow2 x f)) → (s u : Stand) (f g : List (List ℕ)) → g ≡ f → seen f ≡ true
    → Along new_texts bad seen true (expand_by (is_operand_by holds) follow older s f) (expand_by (is_operand_by holds2) follow2 newer u g))
    (stays_below : (m : ℕ) (rest : List ℕ) (y : Any Nowhere) → node_at (an_expression older) (m ∷ rest) ≡ Some y → node_at (an_expression newer) (m ∷ rest) ≡ Some y)
    (c : CallRef) (other : c ≡ h → ⊥) (t : CallIn (project old) c) (no_files : is_files t.name.text (listing tt t.trailing (bare_arguments t)) ≡ false) (goes : GoesTo what (project old) (called t) h) where
  abbrev ts : List Plain
  ts = plain_trees old

  abbrev us : List Plain
  us = plain_trees new

  abbrev xs : Arguments Nowhere
  xs = bare_arguments t

  abbrev call_node : Expression Nowhere
  call_node = bare_form t

  abbrev before : Expansion Nowhere
  before = met_in what (project old) c xs

  here : NodeIn ts c (an_expression call_node)
  here = stands_bare old c t

  grows_by : (seen : List (List ℕ) → Bool) (e : Expansion Nowhere) → Either new_texts (IsIt h) seen true before.marks e.marks → Grows new_texts (gist before.marks) (gist e.marks)
  grows_by seen e either = go before.marks e.marks either (not_clear what (project old) c t new_texts seen h goes)
    where
      go : (ms ns : List (Mark Nowhere)) → Either new_texts (IsIt h) seen true ms ns → (Every (Clear new_texts (IsIt h) seen) ms → ⊥) → Grows new_texts (gist ms) (gist ns)
      go ms ns (as_before same clear) met = absurd (met clear)
      go ms ns (grown is grows) met = grows

  -- ---- by a variable

  how_either : (seen : List (List ℕ) → Bool) (g k : List (List ℕ)) (ms ns : List (Mark Nowhere)) → How new_texts (IsIt h) seen g k ms ns → Either new_texts (IsIt h) seen true ms ns
  how_either seen g k ms ns (stays same clear is) = as_before same clear
  how_either seen g k ms ns (comes no_yet yea either) = either

  call_stays : Far h c → NodeIn us c (an_expression call_node)
  call_stays far = go (under h c)
    where
      go : ((rest : List ℕ) × (c ≡ below h rest)) ⊎ ((rest : List ℕ) → c ≡ below h rest → ⊥) → NodeIn us c (an_expression call_node)
      go (inr not) = node_away old new names h tree now was is_now others older newer becomes c far (λ m rest is. not (m ∷ rest) is) (an_expression call_node) here
      go (inl w) = by w.0 w.1
        where
          by : (rest : List ℕ) → c ≡ below h rest → NodeIn us c (an_expression call_node)
          by [] is = absurd (other (is ∙ below_itself h))
          by (m ∷ rest) is =
              let same_file : c.file ≡ h.file = ap (λ (q : CallRef). q.file) is in
              let steps : c.path.steps ≡ h.path.steps ++ m ∷ rest = ap (λ (q : CallRef). q.path.steps) is in
              let same_tree : here.tree ≡ tree = some-injective _ _ (sym here.is_tree ∙ ap (nth ts) same_file ∙ was) in
              let was_there : node_at (a_block (block_of tree)) (h.path.steps ++ m ∷ rest) ≡ Some (an_expression call_node) =
              ap (node_at (a_block (block_of tree))) (sym steps) ∙ ap (λ t. node_at (a_block (block_of t)) c.path.steps) (sym same_tree) ∙ here.is_node in
              let old_there = became_old (an_expression older) (an_expression newer) h.path.steps (a_block (block_of tree)) (a_block (block_of now)) becomes in
              let new_there = became_new (an_expression older) (an_expression newer) h.path.steps (a_block (block_of tree)) (a_block (block_of now)) becomes in
              let inner = sym (node_between h.path.steps (m ∷ rest) (a_block (block_of tree)) (an_expression older) old_there) ∙ was_there in
              record {
                tree = now;
                is_tree = ap (nth us) same_file ∙ is_now;
                is_node = ap (node_at (a_block (block_of now))) steps ∙ node_between h.path.steps (m ∷ rest) (a_block (block_of now)) (an_expression newer) new_there ∙ stays_below m rest (an_expression call_node) inner;
              }

  by_variable : Far h c → CallGrows what new_texts old new c xs
  by_variable far =
      let x0 = holder old h file is_file in
      let seen = λ (g : List (List ℕ)). one_of g x0 in
      let kin = kin_v new_texts old new names h tree now was is_now others older newer becomes stand places kind value_kind x0 (holds_it old h file is_file) in
      let o = far_call new_texts h older newer kind value_kind true base seen (values_of (project old)) (values_of (project new)) kin c far (what.look xs) in
      record {
        list = xs;
        node = record { name = erase_name t.name; trailing = t.trailing; node = call_stays far };
        same_blanks = refl;
        grows = grows_by seen (met_in what (project new) c xs) (how_either seen [] _ _ _ o.how);
      }

  -- ---- in an argument

  in_argument : (m : ℕ) (path : List ℕ) → h ≡ below c (m ∷ path) → CallGrows what new_texts old new c xs
  in_argument m path leads =
      let on = node_above old new names h tree now was is_now others older newer becomes c (m ∷ path) leads (an_expression call_node) here in
      let w = on.further in
      let k = call_shape on.next t.name.text (blanks xs) w.2.shapes in
      let next_node = next_in old new names h tree now was is_now others older newer becomes c (m ∷ path) leads (an_expression call_node) here in
      let at_c2 : NodeIn us c (an_expression (call k.r k.name (listing k.z k.trailing k.list))) = subst (NodeIn us c) k.is next_node in
      let no_files2 : is_files k.name.text (listing k.z k.trailing k.list) ≡ false = files_alike t.name.text k.name.text (listing tt t.trailing xs) (listing k.z k.trailing k.list) k.same_name k.same_blanks ∙ no_files in
      let aside = aside_far h c (m ∷ path) leads in
      let above = above_it h c (m ∷ path) leads in
      let kin = kin_c new_texts old new names h tree now was is_now others older newer becomes stand places (IsIt h) (Far h) (far_deeper h) (far_apart h) (λ p far. far) tt k.r (erase_name t.name) k.name
      (listing tt t.trailing xs) (listing k.z k.trailing k.list) no_files no_files2 c aside above here at_c2 (m ∷ path) leads (outside old c _ t.at) in
      let level = node_level ts stand c call_node here in
      let differ : Differ w.0 w.1 m (arguments_parts xs) (arguments_parts k.list) = subst (λ x. Differ w.0 w.1 m (arguments_parts xs) (child_nodes x)) k.is w.2.parts in
      let a = arguments_above new_texts (IsIt h) (Far h) (far_deeper h) (far_apart h) tt k.r (erase_name t.name) k.name (listing tt t.trailing xs) (listing k.z k.trailing k.list) no_files no_files2 c aside above
      (values_of (project old)) (values_of (project new)) kin h older newer kind (base (IsIt h)) (aside_far h h [] (sym (below_itself h))) (above_it h h [] (sym (below_itself h)))
      m path leads w.0 w.1 w.3 (what.look xs) (what.look k.list) (what.same_blanks xs k.list k.same_blanks)
      (subst (λ ps. Differ w.0 w.1 m ps (arguments_parts (what.look k.list))) (sym (what.same_parts xs)) (subst (Differ w.0 w.1 m (arguments_parts xs)) (sym (what.same_parts k.list)) differ)) (what.level xs level.1) in
      record { list = k.list; node = record { name = k.name; trailing = k.trailing; node = at_c2 }; same_blanks = k.same_blanks; grows = grows_by always (met_in what (project new) c k.list) a.marks }

  pub arrives : CallGrows what new_texts old new c xs
  arrives = go (under c h)
    where
      go : ((rest : List ℕ) × (h ≡ below c rest)) ⊎ ((rest : List ℕ) → h ≡ below c rest → ⊥) → CallGrows what new_texts old new c xs
      go (inr not) = by_variable (λ rest is. not rest is)
      go (inl w) = by w.0 w.1
        where
          by : (rest : List ℕ) → h ≡ below c rest → CallGrows what new_texts old new c xs
          by [] is = absurd (other (sym (below_itself c) ∙ sym is))
          by (m ∷ path) is = in_argument m path is

-- ==== Further files do not go into what is met as one that is not known, nor further extra files into the call itself.

module _ (new_texts : List (List ℕ)) (old : Loaded) (stand : All MayStandBetween (plain_trees old)) (h : CallRef) (older : Expression Nowhere) (at_h : NodeIn (plain_trees old) h (an_expression older))
    (kind : (holds holds2 : List ℕ → Bool) → is_operand_by holds2 older ≡ is_operand_by holds older) (value_kind : (m m2 : Expression Nowhere → Bool) → is_value_by m2 older ≡ is_value_by m older)
    (is_opaque : (lists : Expression Nowhere → Bool) (follow : List ℕ → List (List ℕ) → Expansion Nowhere) (s : Stand) (f : List (List ℕ)) → expand_by lists follow older s f ≡ met opaque f) where
  base : (bad : CallRef → Type 0) (seen : List (List ℕ) → Bool) (holds holds2 : List ℕ → Bool) (alike : (x : List ℕ) → holds2 x ≡ holds x) (follow follow2 : List ℕ → List (List ℕ) → Expansion Nowhere)
      → ((x : List ℕ) (g : List (List ℕ)) → one_of g x ≡ false → Outcome new_texts bad seen g (follow x g) (follow2 x g)) → (u v : Stand) (g k : List (List ℕ)) → k ≡ g → seen g ≡ true
      → Along new_texts bad seen false (expand_by (is_operand_by holds) follow older u g) (expand_by (is_operand_by holds2) follow2 older v k)
  base bad seen holds holds2 alike follow follow2 follows u v g k equal behind =
      subst (λ z. Along new_texts bad seen false z (expand_by (is_operand_by holds2) follow2 older v k)) (sym (is_opaque (is_operand_by holds) follow u g))
      (subst (λ z. Along new_texts bad seen false (met opaque g) z) (sym (is_opaque (is_operand_by holds2) follow2 v k)) (along_same new_texts bad seen false g _ _ behind (opaque_both new_texts bad seen g k equal)))

  clear_how : (g k : List (List ℕ)) (ms ns : List (Mark Nowhere)) → How new_texts (IsIt h) always g k ms ns → Every (Clear new_texts (IsIt h) always) ms
  clear_how g k ms ns (stays same clear is) = clear
  clear_how g k ms ns (comes no_yet yea either) = absurd cc

  clear_either : (ms ns : List (Mark Nowhere)) → Either new_texts (IsIt h) always false ms ns → Every (Clear new_texts (IsIt h) always) ms
  clear_either ms ns (as_before same clear) = clear
  clear_either ms ns (grown is grows) = absurd cc

  abbrev kin : (x : List ℕ) → KinV new_texts h older older kind value_kind false base always (values_of (project old)) (values_of (project old)) x
  kin = kin_x new_texts old stand h older at_h kind value_kind

  module _ (c : CallRef) (t : CallIn (project old) c) where
    pub never_met : (what : FileKind) → (c ≡ h → ⊥) → GoesTo what (project old) (called t) h → ⊥
    never_met what other goes = not_clear what (project old) c t new_texts always h goes (all_clear (under c h))
      where
        all_clear : ((rest : List ℕ) × (h ≡ below c rest)) ⊎ ((rest : List ℕ) → h ≡ below c rest → ⊥) → Every (Clear new_texts (IsIt h) always) (met_in what (project old) c (bare_arguments t)).marks
        all_clear (inr not) =
            clear_how [] _ _ _ (far_call new_texts h older older kind value_kind false base always (values_of (project old)) (values_of (project old)) kin c (λ rest is. not rest is) (what.look (bare_arguments t))).how
        all_clear (inl w) = by w.0 w.1
          where
            by : (rest : List ℕ) → h ≡ below c rest → Every (Clear new_texts (IsIt h) always) (met_in what (project old) c (bare_arguments t)).marks
            by [] is = absurd (other (sym (below_itself c) ∙ sym is))
            by (m ∷ path) is =
                let here = stands_bare old c t in
                let there = node_below (plain_trees old) c (m ∷ path) (an_expression (bare_form t)) (an_expression older) here (subst (λ q. NodeIn (plain_trees old) q (an_expression older)) is at_h) in
                let w2 = becomes_same (m ∷ path) (an_expression (bare_form t)) (an_expression older) there in
                let level = node_level (plain_trees old) stand c (bare_form t) here in
                let differ = subst (λ ps. Differ w2.0 w2.1 m ps ps) (sym (what.same_parts (bare_arguments t))) w2.2.parts in
                clear_either _ _ (call_above new_texts h older older kind value_kind false base always (values_of (project old)) (values_of (project old)) kin refl c m path is w2.0 w2.1 w2.3
                (what.look (bare_arguments t)) (what.look (bare_arguments t)) refl differ (what.level (bare_arguments t) level.1)).marks

    -- its own arguments stand below it
    pub own_never_met : h ≡ c → GoesTo of_extras (project old) (called t) h → ⊥
    own_never_met same goes =
        let l = level_v new_texts h older older kind value_kind false base always (values_of (project old)) (values_of (project old)) kin in
        let one = expand_with (values_of (project old)) max_followed in
        let o = keys_same new_texts (IsIt h) always (Far h) (an_expression older) (an_expression older) h false one one l.same c (as_sources (bare_arguments t)) 0 0 (λ k le rest is. below_it k rest (sym same ∙ is)) [] [] refl in
        let clear = subst (λ us. Every (Clear new_texts (IsIt h) always) (list_with one c (λ n. fixed) us []).marks) (same_keys 0 (bare_arguments t)) (clear_how [] _ _ _ o.how) in
        not_clear of_extras (project old) c t new_texts always h goes (subst (λ (e : Expansion Nowhere). Every (Clear new_texts (IsIt h) always) e.marks) (sym (as_whole one c (bare_arguments t))) clear)
      where
        below_it : (k : ℕ) (rest : List ℕ) → c ≡ below (child c k) rest → ⊥
        below_it k rest is = let steps : [] ≡ k ∷ rest = below_steps c [] (k ∷ rest) (below_itself c ∙ is ∙ below_child c k rest) in cc

-- further extra files of a target do not go among the arguments of its call
pub extras_elsewhere : (old : Loaded) → All MayStandBetween (plain_trees old) → (c : CallRef) (t : CallIn (project old) c) → one_of target_functions t.name.text ≡ true → (h : CallRef) → GoesTo of_extras (project old) (called t) h → c ≡ h → ⊥
extras_elsewhere old stand c t target h goes same =
    let bare = listing tt t.trailing (bare_arguments t) in
    let none = target_no_files t.name.text bare target in
    own_never_met [] old stand c (bare_form t) (stands_bare old c t) (λ holds holds2. refl) (λ m m2. refl) (λ lists follow u f. opaque_call lists follow tt (erase_name t.name) bare none u f) c t refl
    (subst (GoesTo of_extras (project old) (called t)) (sym same) goes)

-- ==== All files of a target after another list than its call's has got strings.

module _ (what : FileKind) (old new : Loaded) (is : IsProject old) (same_names : file_names new ≡ file_names old) (new_t : List (List ℕ)) (utf8 : Every IsUtf8 new_t) (h : CallRef) (l : ListTurns old new h new_t)
    (c : CallRef) (t : CallIn (project old) c) (target : one_of target_functions t.name.text ≡ true) (few : length (keyed what.key 0 t.arguments) ≤ 1) (goes : GoesTo what (project old) (called t) h) (other : c ≡ h → ⊥) where
  abbrev Answer : Type 0
  Answer = FilesGrown what.read new_t c (project old) (project new) × KeepsNames old new (called t)

  abbrev Turns : Expression Nowhere → Expression Nowhere → Type 0
  Turns older newer = Becomes (an_expression older) (an_expression newer) h.path.steps (a_block (block_of l.tree)) (a_block (block_of l.now))

  abbrev list_before : List (Argument Nowhere) → Bool → Listing Nowhere
  list_before rest = old_list new_t l.front rest

  abbrev after : List (Argument Nowhere) → Bool → Listing Nowhere
  after rest = new_list new_t l.front rest

  stand : All MayStandBetween (plain_trees old)
  stand = all_stand old is.parsed h

  no_files : is_files t.name.text (listing tt t.trailing (bare_arguments t)) ≡ false
  no_files = target_no_files t.name.text (listing tt t.trailing (bare_arguments t)) target

  from_grows : CallGrows what new_t old new c (bare_arguments t) → FilesGrown what.read new_t c (project old) (project new)
  from_grows g = answered_alike what new_t old new c t few g.list g.node (λ key. key_blanks key (bare_arguments t) g.list g.same_blanks) g.grows

  at_h : (older newer : Expression Nowhere) → Turns older newer → NodeIn (plain_trees old) h (an_expression older)
  at_h older newer w = record { tree = l.tree; is_tree = l.was; is_node = became_old (an_expression older) (an_expression newer) h.path.steps (a_block (block_of l.tree)) (a_block (block_of l.now)) w }

  named_by : (older newer : Expression Nowhere) → Turns older newer → Alike (an_expression older) (an_expression newer)
      → ((m : ℕ) (path : List ℕ) (y : Any Nowhere) → node_at (an_expression older) (m ∷ path) ≡ Some y → node_at (an_expression newer) (m ∷ path) ≡ Some y) → KeepsNames old new (called t)
  named_by older newer w alike stays_so id found = named_stays old new same_names h l.tree l.now l.was l.is_now l.others older newer w alike id (called t) found (λ m path y leads. stays_so m path y)

  array_full : (z z2 : Bool) → Turns (array (list_before [] z)) (array (after [] z2)) → Answer
  array_full z z2 w =
      let older = array (list_before [] z) in
      let newer = array (after [] z2) in
      let places = same_places old new same_names h l.tree l.now l.was l.is_now l.others older newer w
      (λ p. told_along (an_expression older) (an_expression newer) refl (λ q. array_told q new_t l.front [] tt tt z z2) h.path.steps (a_block (block_of l.tree)) (a_block (block_of l.now)) w p) in
      let tells = node_tells (an_expression newer) ∙ grown_tells new_t l.front [] ∙ sym (node_tells (an_expression older)) in
      let named = named_by older newer w (record { seen = refl; tells = tells; owns = refl }) (λ m rest y. below_first l.front (strings new_t ++ []) m rest y) in
      let grows = from_grows (arrives what new_t old new same_names h l.tree l.now l.was l.is_now l.others older newer w stand places l.file l.is_file (λ holds holds2. refl) (λ m m2. refl)
      (λ bad seen holds holds2 alike follow follow2 follows u v g k equal behind.
      array_brings new_t bad seen (is_operand_by holds) (is_operand_by holds2) (operand_alike holds holds2 alike) follow follow2 follows [] utf8 l.front tt tt z z2 u v g k equal behind)
      (λ m rest y. below_first l.front (strings new_t ++ []) m rest y) c other t no_files goes) in
      (grows, named)

  array_case : (z z2 : Bool) → Turns (array (list_before l.back z)) (array (after l.back z2)) → Answer
  array_case z z2 w =
      let level = node_level (plain_trees old) stand h (array (list_before l.back z)) (at_h (array (list_before l.back z)) (array (after l.back z2)) w) in
      let nil = none_by_level bracket.Square refl refl l.front l.back false level.1 l.none in
      array_full z z2 (subst (λ rest. Turns (array (list_before rest z)) (array (after rest z2))) nil w)

  files_full : (q : Nowhere) (x : Name Nowhere) (z z2 : Bool) → is_files x.text (list_before [] z) ≡ true → Turns (call q x (list_before [] z)) (call q x (after [] z2)) → Answer
  files_full q x z z2 files w =
      let older = call q x (list_before [] z) in
      let newer = call q x (after [] z2) in
      let stay = files_stay new_t x.text l.front [] tt tt z z2 in
      let places = same_places old new same_names h l.tree l.now l.was l.is_now l.others older newer w
      (λ p. told_along (an_expression older) (an_expression newer) refl (λ y. call_told y new_t l.front [] q x tt tt z z2 (files_no_matter x.text (list_before [] z) files)) h.path.steps (a_block (block_of l.tree)) (a_block (block_of l.now)) w p) in
      let alike = calls_alike q x (list_before [] z) (after [] z2) (grown_tells new_t l.front []) (inl (files_no_target x.text (list_before [] z) files)) in
      let named = named_by older newer w alike (λ m rest y. below_first l.front (strings new_t ++ []) m rest y) in
      let grows = from_grows (arrives what new_t old new same_names h l.tree l.now l.was l.is_now l.others older newer w stand places l.file l.is_file (λ holds holds2. stay) (λ m m2. stay)
      (λ bad seen holds holds2 alike follow follow2 follows u v g k equal behind.
      call_brings new_t bad seen (is_operand_by holds) (is_operand_by holds2) (operand_alike holds holds2 alike) follow follow2 follows [] utf8 l.front q x tt tt z z2 files (stay ∙ files) u v g k equal behind)
      (λ m rest y. below_first l.front (strings new_t ++ []) m rest y) c other t no_files goes) in
      (grows, named)

  call_case : (b : Bool) (q : Nowhere) (x : Name Nowhere) (z z2 : Bool) → is_files x.text (list_before l.back z) ≡ b → Turns (call q x (list_before l.back z)) (call q x (after l.back z2)) → Answer
  call_case true q x z z2 files w =
      let level = node_level (plain_trees old) stand h (call q x (list_before l.back z)) (at_h (call q x (list_before l.back z)) (call q x (after l.back z2)) w) in
      let nil = none_by_files l.front l.back false level.1 (files_names x.text tt z (arguments_of (l.front ++ l.back)) files) l.none in
      files_full q x z z2 (subst (λ rest. is_files x.text (list_before rest z) ≡ true) nil files) (subst (λ rest. Turns (call q x (list_before rest z)) (call q x (after rest z2))) nil w)
  call_case false q x z z2 files w =
      absurd (never_met new_t old stand h (call q x (list_before l.back z)) (at_h (call q x (list_before l.back z)) (call q x (after l.back z2)) w) (λ holds holds2. refl) (λ m m2. refl)
      (λ lists follow u g. opaque_call lists follow q x (list_before l.back z) files u g) c t what other goes)

  pub files_come : Answer
  files_come = go l.older l.newer l.turn l.becomes
    where
      go : (older newer : Expression Nowhere) → Turn new_t l.front l.back older newer → Turns older newer → Answer
      go _ _ (an_array z z2) w = array_case z z2 w
      go _ _ (call_turn q x z z2) w = call_case (is_files x.text (list_before l.back z)) q x z z2 refl w
      go _ _ (a_dictionary m n) w = absurd (never_met new_t old stand h (dictionary m) (at_h (dictionary m) (dictionary n) w) (λ holds holds2. refl) (λ m m2. refl) (λ lists follow u g. refl) c t what other goes)
