-- Names that are written in the folder of another file mean the same path there.
use Rattle.std.proofs.Common.{◌≡◌, inl, inr, ℕ, ◌-◌, ◌<◌, List, [], ◌∷◌, ◌++◌, length, take, map, refl, sym, ap, subst, arith, append-nil, append_assoc, ◌∙◌}
use Rattle.std.specs.Prelude.{◌⊎◌, ◌==◌, Bool, true, false, not, ◌||◌, ◌&&◌, if◌then◌else◌, bytes_eq, codes, slice_get, Some}
use Rattle.std.specs.List.{All, fold, join_with_byte, list_any}
use Rattle.std.proofs.lemmas.Bool.{eqb-true}
use Rattle.std.proofs.lemmas.List.Elements.{All-append, All-cons, All-head, All-nil, All-tail}
use Rattle.std.proofs.lemmas.Slice.Eq.{bytes_eq-Decides}
use Rattle.meson_lex.specs.declared.kinds.Span.{Span}
use Rattle.meson_calls.specs.Entering.{is_absolute, names_folder}
use Rattle.meson_calls.specs.Folders.{IsFileName, build_file, goes_nowhere, is_control, parts_after, slash_parts}
use Rattle.meson_calls.specs.Project.{Project}
use Rattle.meson_followed.specs.Laws.{NamesMeanPaths}
use Rattle.meson_followed.specs.Paths.{Parts, around, around_last, file_folder, name_from, name_of_way, onward, path_of, through_parts, upward, way_from, written_path}
use Rattle.meson_followed.specs.Sources.{file_name, name_for, named_path}

-- ---- lists by their last part

one_after : (path : Parts) (x : List ℕ) → length (path ++ x ∷ []) - 1 ≡ length path
one_after [] x = refl
one_after (y ∷ path) x = let e = one_after path x in omega (arith, e, some path x)
  where
    some : (path : Parts) (x : List ℕ) → 0 < length (path ++ x ∷ [])
    some [] x = omega arith
    some (y ∷ path) x = omega arith

last_there : (path : Parts) (x : List ℕ) → slice_get (path ++ x ∷ []) (length path) ≡ Some x
last_there [] x = refl
last_there (y ∷ path) x = last_there path x

front_there : (path : Parts) (x : List ℕ) → take (length path) (path ++ x ∷ []) ≡ path
front_there [] x = refl
front_there (y ∷ path) x = ap (λ ys. y ∷ ys) (front_there path x)

without_last : (path : Parts) (x : List ℕ) → take (length (path ++ x ∷ []) - 1) (path ++ x ∷ []) ≡ path
without_last path x = ap (λ n. take n (path ++ x ∷ [])) (one_after path x) ∙ front_there path x

same_front : (a b : Parts) (x y : List ℕ) → a ++ x ∷ [] ≡ b ++ y ∷ [] → a ≡ b
same_front a b x y is = sym (without_last a x) ∙ ap (λ xs. take (length xs - 1) xs) is ∙ without_last b y

-- the last part and those before it
record Ends (path : Parts) : Type 0 where
  front : Parts
  last : List ℕ
  is : path ≡ front ++ last ∷ []

ends : (path : Parts) → (path ≡ []) ⊎ Ends path
ends [] = inl refl
ends (x ∷ path) = go (ends path)
  where
    go : (path ≡ []) ⊎ Ends path → (x ∷ path ≡ []) ⊎ Ends (x ∷ path)
    go (inl none) = inr (record { front = []; last = x; is = ap (λ xs. x ∷ xs) none })
    go (inr e) = inr (record { front = x ∷ e.front; last = e.last; is = ap (λ xs. x ∷ xs) e.is })

around_end : (path : Parts) (x : List ℕ) → around (path ++ x ∷ []) ≡ (if bytes_eq x [] then path ++ x ∷ [] else (if bytes_eq x upward then (path ++ x ∷ []) ++ upward ∷ [] else path))
around_end path x =
    ap (around_last (path ++ x ∷ [])) (ap (slice_get (path ++ x ∷ [])) (one_after path x) ∙ last_there path x)
    ∙ ap (λ front. if bytes_eq x [] then path ++ x ∷ [] else (if bytes_eq x upward then (path ++ x ∷ []) ++ upward ∷ [] else front)) (without_last path x)

-- ---- walks

walk_on : (at : Parts) (xs ys : List (List ℕ)) → fold onward at (xs ++ ys) ≡ fold onward (fold onward at xs) ys
walk_on at [] ys = refl
walk_on at (x ∷ xs) ys = walk_on (onward at x) xs ys

-- a part of a path that is not empty, has no slash and is not `.`
record IsPart (x : List ℕ) : Type 0 where
  names : names_folder x ≡ true
  no_slash : list_any (λ c. c == 47) x ≡ false

-- and not `..`
record IsPlain (x : List ℕ) : Type 0 where
  part : IsPart x
  not_up : bytes_eq x upward ≡ false

not_empty : (x : List ℕ) → names_folder x ≡ true → bytes_eq x [] ≡ false
not_empty x names = go (bytes_eq x []) (bytes_eq x (codes ".")) names
  where
    go : (a b : Bool) → not (a || b) ≡ true → a ≡ false
    go true b is = cc
    go false b is = refl

-- what is normal is its own walk
record IsNormal (path : Parts) : Type 0 where
  parts : All IsPart path
  walked : fold onward [] path ≡ path

part_goes_on : (at : Parts) (x : List ℕ) → IsPlain x → onward at x ≡ at ++ x ∷ []
part_goes_on at x is =
    ap (λ b. if b then (if bytes_eq x upward then around at else at ++ x ∷ []) else at) is.part.names
    ∙ ap (λ b. if b then around at else at ++ x ∷ []) is.not_up

up_goes_around : (at : Parts) → onward at upward ≡ around at
up_goes_around at = refl

plain_left : (path : Parts) (x : List ℕ) → IsPlain x → around (path ++ x ∷ []) ≡ path
plain_left path x is =
    around_end path x
    ∙ ap (λ b. if b then path ++ x ∷ [] else (if bytes_eq x upward then (path ++ x ∷ []) ++ upward ∷ [] else path)) (not_empty x is.part.names)
    ∙ ap (λ b. if b then (path ++ x ∷ []) ++ upward ∷ [] else path) is.not_up

up_is_part : IsPart upward
up_is_part = record { names = refl; no_slash = refl }

all_front : (path : Parts) (x : List ℕ) → All IsPart (path ++ x ∷ []) → All IsPart path
all_front [] x all = All-nil IsPart
all_front (y ∷ path) x all = All-cons IsPart y path (All-head IsPart y (path ++ x ∷ []) all) (all_front path x (All-tail IsPart y (path ++ x ∷ []) all))

all_last : (path : Parts) (x : List ℕ) → All IsPart (path ++ x ∷ []) → IsPart x
all_last [] x all = All-head IsPart x [] all
all_last (y ∷ path) x all = all_last path x (All-tail IsPart y (path ++ x ∷ []) all)

one_more_part : (path : Parts) (x : List ℕ) → All IsPart path → IsPart x → All IsPart (path ++ x ∷ [])
one_more_part path x all is = All-append IsPart path (x ∷ []) all (All-cons IsPart x [] is (All-nil IsPart))

-- up once more from what is normal
further_up : (path : Parts) → IsNormal path → around path ≡ path ++ upward ∷ [] → IsNormal (path ++ upward ∷ [])
further_up path is up =
    record {
      parts = one_more_part path upward is.parts up_is_part;
      walked = walk_on [] path (upward ∷ []) ∙ ap around is.walked ∙ up;
    }

front_normal : (path : Parts) (x : List ℕ) → IsPlain x → IsNormal (path ++ x ∷ []) → IsNormal path
front_normal path x plain is =
    let end = sym (part_goes_on (fold onward [] path) x plain) ∙ sym (walk_on [] path (x ∷ [])) ∙ is.walked in
    record { parts = all_front path x is.parts; walked = same_front (fold onward [] path) path x x end }

around_normal : (path : Parts) → IsNormal path → IsNormal (around path)
around_normal path is = go (ends path)
  where
    go : (path ≡ []) ⊎ Ends path → IsNormal (around path)
    go (inl none) = subst (λ q. IsNormal (around q)) (sym none) (record { parts = one_more_part [] upward (All-nil IsPart) up_is_part; walked = refl })
    go (inr e) = subst (λ q. IsNormal (around q)) (sym e.is) (by_last (bytes_eq e.last upward) refl)
      where
        normal : IsNormal (e.front ++ e.last ∷ [])
        normal = subst IsNormal e.is is

        part : IsPart e.last
        part = all_last e.front e.last normal.parts

        by_last : (b : Bool) → bytes_eq e.last upward ≡ b → IsNormal (around (e.front ++ e.last ∷ []))
        by_last true up =
            let is_up = around_end e.front e.last
            ∙ ap (λ b. if b then e.front ++ e.last ∷ [] else (if bytes_eq e.last upward then (e.front ++ e.last ∷ []) ++ upward ∷ [] else e.front)) (not_empty e.last part.names)
            ∙ ap (λ b. if b then (e.front ++ e.last ∷ []) ++ upward ∷ [] else e.front) up in
            subst IsNormal (sym is_up) (further_up (e.front ++ e.last ∷ []) normal is_up)
        by_last false other =
            let plain : IsPlain e.last = record { part = part; not_up = other } in
            subst IsNormal (sym (plain_left e.front e.last plain)) (front_normal e.front e.last plain normal)

onward_normal : (path : Parts) (x : List ℕ) → list_any (λ c. c == 47) x ≡ false → IsNormal path → IsNormal (onward path x)
onward_normal path x no_slash is = go (names_folder x) refl (bytes_eq x upward) refl
  where
    go : (a : Bool) → names_folder x ≡ a → (b : Bool) → bytes_eq x upward ≡ b → IsNormal (if a then (if b then around path else path ++ x ∷ []) else path)
    go true names true up = around_normal path is
    go true names false other =
        let plain : IsPlain x = record { part = record { names = names; no_slash = no_slash }; not_up = other } in
        record {
          parts = one_more_part path x is.parts plain.part;
          walked = walk_on [] path (x ∷ []) ∙ ap (λ at. onward at x) is.walked ∙ part_goes_on path x plain;
        }
    go false none b up = is

abbrev NoSlash : List ℕ → Type 0
NoSlash x = list_any (λ c. c == 47) x ≡ false

walk_normal : (path : Parts) (xs : List (List ℕ)) → All NoSlash xs → IsNormal path → IsNormal (fold onward path xs)
walk_normal path [] all is = is
walk_normal path (x ∷ xs) all is = walk_normal (onward path x) xs (All-tail NoSlash x xs all) (onward_normal path x (All-head NoSlash x xs all) is)

-- ---- parts of a text

no_slash_more : (read : List ℕ) (c : ℕ) → NoSlash read → (c == 47) ≡ false → NoSlash (read ++ c ∷ [])
no_slash_more [] c none other = ap (λ b. b || false) other
no_slash_more (r ∷ read) c none other = go (r == 47) none (λ is. no_slash_more read c is other)
  where
    go : (b : Bool) → (b || list_any (λ c. c == 47) read) ≡ false → (NoSlash read → NoSlash (read ++ c ∷ []))
        → (b || list_any (λ c. c == 47) (read ++ c ∷ [])) ≡ false
    go true is later = cc
    go false is later = later is

parts_no_slash : (read text : List ℕ) → NoSlash read → All NoSlash (parts_after read text)
parts_no_slash read [] none = All-cons NoSlash read [] none (All-nil NoSlash)
parts_no_slash read (c ∷ cs) none = go (c == 47) refl (parts_no_slash [] cs refl) (parts_no_slash (read ++ c ∷ []) cs)
  where
    go : (b : Bool) → (c == 47) ≡ b → All NoSlash (parts_after [] cs) → (NoSlash (read ++ c ∷ []) → All NoSlash (parts_after (read ++ c ∷ []) cs))
        → All NoSlash (if b then read ∷ parts_after [] cs else parts_after (read ++ c ∷ []) cs)
    go true is others further = All-cons NoSlash read (parts_after [] cs) none others
    go false is others further = further (no_slash_more read c none is)

-- a text without a slash, and then more
part_read : (read x rest : List ℕ) → NoSlash x → parts_after read (x ++ rest) ≡ parts_after (read ++ x) rest
part_read read [] rest none = ap (λ r. parts_after r rest) (sym (append-nil read))
part_read read (c ∷ x) rest none = go (c == 47) none (part_read (read ++ c ∷ []) x rest)
  where
    go : (b : Bool) → (b || list_any (λ c. c == 47) x) ≡ false
        → (NoSlash x → parts_after (read ++ c ∷ []) (x ++ rest) ≡ parts_after ((read ++ c ∷ []) ++ x) rest)
        → (if b then read ∷ parts_after [] (x ++ rest) else parts_after (read ++ c ∷ []) (x ++ rest)) ≡ parts_after (read ++ c ∷ x) rest
    go true is later = absurd cc
    go false is later = later is ∙ ap (λ r. parts_after r rest) (append_assoc read (c ∷ []) x)

joined_parts : (x : List ℕ) (xs : List (List ℕ)) → All NoSlash (x ∷ xs) → slash_parts (join_with_byte 47 (x ∷ xs)) ≡ x ∷ xs
joined_parts x [] all = ap (parts_after []) (sym (append-nil x)) ∙ part_read [] x [] (All-head NoSlash x [] all)
joined_parts x (y ∷ ys) all =
    part_read [] x (47 ∷ join_with_byte 47 (y ∷ ys)) (All-head NoSlash x (y ∷ ys) all)
    ∙ ap (λ ps. x ∷ ps) (joined_parts y ys (All-tail NoSlash x (y ∷ ys) all))

-- ---- the way from a folder to a path

abbrev ups : Parts → Parts
ups folder = map (λ _. upward) folder

one_up_more : (folder : Parts) → ups folder ++ upward ∷ [] ≡ upward ∷ ups folder
one_up_more [] = refl
one_up_more (f ∷ folder) = ap (λ us. upward ∷ us) (one_up_more folder)

-- up from each part of a folder
all_up : (at folder : Parts) → All IsPlain folder → fold onward (at ++ folder) (ups folder) ≡ at
all_up at [] all = append-nil at
all_up at (f ∷ folder) all =
    let plain = All-head IsPlain f folder all in
    ap (λ q. fold onward q (upward ∷ ups folder)) (sym (append_assoc at (f ∷ []) folder))
    ∙ ap (fold onward ((at ++ f ∷ []) ++ folder)) (sym (one_up_more folder))
    ∙ walk_on ((at ++ f ∷ []) ++ folder) (ups folder) (upward ∷ [])
    ∙ ap around (all_up (at ++ f ∷ []) folder (All-tail IsPlain f folder all))
    ∙ plain_left at f plain

-- on from what is its own walk
goes_down : (at path : Parts) → fold onward [] at ≡ at → fold onward [] (at ++ path) ≡ at ++ path → fold onward at path ≡ at ++ path
goes_down at path own whole = ap (λ q. fold onward q path) (sym own) ∙ sym (walk_on [] at path) ∙ whole

way_leads : (at folder path : Parts) → fold onward [] at ≡ at → All IsPlain folder → fold onward [] (at ++ path) ≡ at ++ path
    → fold onward (at ++ folder) (way_from folder path) ≡ at ++ path
way_leads at [] path own all whole = ap (λ q. fold onward q path) (append-nil at) ∙ goes_down at path own whole
way_leads at (f ∷ folder) [] own all whole = all_up at (f ∷ folder) all ∙ sym (append-nil at)
way_leads at (f ∷ folder) (x ∷ path) own all whole = go (bytes_eq f x) refl (way_leads (at ++ f ∷ []) folder path)
  where
    plain : IsPlain f
    plain = All-head IsPlain f folder all

    go : (b : Bool) → bytes_eq f x ≡ b
        → (fold onward [] (at ++ f ∷ []) ≡ at ++ f ∷ [] → All IsPlain folder → fold onward [] ((at ++ f ∷ []) ++ path) ≡ (at ++ f ∷ []) ++ path
        → fold onward ((at ++ f ∷ []) ++ folder) (way_from folder path) ≡ (at ++ f ∷ []) ++ path)
        → fold onward (at ++ f ∷ folder) (if b then way_from folder path else ups (f ∷ folder) ++ x ∷ path) ≡ at ++ x ∷ path
    go true is later =
        let same : f ≡ x = (bytes_eq-Decides f x).0 is in
        let whole_too = subst (λ y. fold onward [] (at ++ y ∷ path) ≡ at ++ y ∷ path) (sym same) whole in
        ap (λ q. fold onward q (way_from folder path)) (sym (append_assoc at (f ∷ []) folder))
        ∙ later (walk_on [] at (f ∷ []) ∙ ap (λ q. onward q f) own ∙ part_goes_on at f plain) (All-tail IsPlain f folder all)
        (ap (fold onward []) (append_assoc at (f ∷ []) path) ∙ whole_too ∙ sym (append_assoc at (f ∷ []) path))
        ∙ append_assoc at (f ∷ []) path ∙ ap (λ y. at ++ y ∷ path) same
    go false is later =
        walk_on (at ++ f ∷ folder) (ups (f ∷ folder)) (x ∷ path)
        ∙ ap (λ q. fold onward q (x ∷ path)) (all_up at (f ∷ folder) all)
        ∙ goes_down at (x ∷ path) own whole

-- ---- the parts of a way

all_ups : (folder : Parts) → All IsPart (ups folder)
all_ups [] = All-nil IsPart
all_ups (f ∷ folder) = All-cons IsPart upward (ups folder) up_is_part (all_ups folder)

way_parts : (folder path : Parts) → All IsPart path → All IsPart (way_from folder path)
way_parts [] path all = all
way_parts (f ∷ folder) [] all = all_ups (f ∷ folder)
way_parts (f ∷ folder) (x ∷ path) all = go (bytes_eq f x) (way_parts folder path (All-tail IsPart x path all))
  where
    go : (b : Bool) → All IsPart (way_from folder path) → All IsPart (if b then way_from folder path else ups (f ∷ folder) ++ x ∷ path)
    go true later = later
    go false later = All-append IsPart (ups (f ∷ folder)) (x ∷ path) (all_ups (f ∷ folder)) all

without_slashes : (path : Parts) → All IsPart path → All NoSlash path
without_slashes [] all = All-nil NoSlash
without_slashes (x ∷ path) all = All-cons NoSlash x path (All-head IsPart x path all).no_slash (without_slashes path (All-tail IsPart x path all))

-- ---- a way as a name

name_walks : (at way : Parts) → All IsPart way → through_parts at (name_of_way way) ≡ fold onward at way
name_walks at [] all = refl
name_walks at (x ∷ way) all = ap (fold onward at) (joined_parts x way (without_slashes (x ∷ way) all))

begins_so : (x : List ℕ) → IsPart x → (rest : List ℕ) → is_absolute (x ++ rest) ≡ false
begins_so [] is rest = let names = is.names in absurd cc
begins_so (c ∷ cs) is rest = go (c == 47) is.no_slash
  where
    go : (b : Bool) → (b || list_any (λ c. c == 47) cs) ≡ false → b ≡ false
    go true none = cc
    go false none = refl

name_is_relative : (way : Parts) → All IsPart way → is_absolute (name_of_way way) ≡ false
name_is_relative [] all = refl
name_is_relative (x ∷ []) all = ap is_absolute (sym (append-nil x)) ∙ begins_so x (All-head IsPart x [] all) []
name_is_relative (x ∷ y ∷ way) all = begins_so x (All-head IsPart x (y ∷ way) all) (47 ∷ join_with_byte 47 (y ∷ way))

-- ---- folders of build files

folder_normal : (file : List ℕ) → IsNormal (file_folder file)
folder_normal file =
    around_normal (through_parts [] file)
    (walk_normal [] (slash_parts file) (parts_no_slash [] file refl) (record { parts = All-nil IsPart; walked = refl }))

parts_of_both : (read xs ys : List ℕ) → parts_after read (xs ++ 47 ∷ ys) ≡ parts_after read xs ++ slash_parts ys
parts_of_both read [] ys = refl
parts_of_both read (c ∷ xs) ys = go (c == 47) (parts_of_both [] xs ys) (parts_of_both (read ++ c ∷ []) xs ys)
  where
    go : (b : Bool) → parts_after [] (xs ++ 47 ∷ ys) ≡ parts_after [] xs ++ slash_parts ys
        → parts_after (read ++ c ∷ []) (xs ++ 47 ∷ ys) ≡ parts_after (read ++ c ∷ []) xs ++ slash_parts ys
        → (if b then read ∷ parts_after [] (xs ++ 47 ∷ ys) else parts_after (read ++ c ∷ []) (xs ++ 47 ∷ ys))
        ≡ (if b then read ∷ parts_after [] xs else parts_after (read ++ c ∷ []) xs) ++ slash_parts ys
    go true later further = ap (λ ps. read ∷ ps) later
    go false later further = further

goes_somewhere : (x : List ℕ) → goes_nowhere x ≡ false → NoSlash x → IsPlain x
goes_somewhere x somewhere none = go (bytes_eq x []) refl (bytes_eq x (codes ".")) refl (bytes_eq x upward) refl somewhere
  where
    go : (a : Bool) → bytes_eq x [] ≡ a → (b : Bool) → bytes_eq x (codes ".") ≡ b → (c : Bool) → bytes_eq x upward ≡ c → ((a || b) || c) ≡ false → IsPlain x
    go true first b second c third is = absurd cc
    go false first true second c third is = absurd cc
    go false first false second true third is = absurd cc
    go false first false second false third is =
        record { part = record { names = ap (λ a. not (a || bytes_eq x (codes "."))) first ∙ ap not second; no_slash = none }; not_up = third }

all_plain : (xs : List (List ℕ)) → list_any goes_nowhere xs ≡ false → All NoSlash xs → All IsPlain xs
all_plain [] none all = All-nil IsPlain
all_plain (x ∷ xs) none all = go (goes_nowhere x) refl none (λ is. all_plain xs is (All-tail NoSlash x xs all))
  where
    go : (b : Bool) → goes_nowhere x ≡ b → (b || list_any goes_nowhere xs) ≡ false → (list_any goes_nowhere xs ≡ false → All IsPlain xs) → All IsPlain (x ∷ xs)
    go true nowhere is later = absurd cc
    go false somewhere is later = All-cons IsPlain x xs (goes_somewhere x somewhere (All-head NoSlash x xs all)) (later is)

plain_walk : (at path : Parts) → All IsPlain path → fold onward at path ≡ at ++ path
plain_walk at [] all = sym (append-nil at)
plain_walk at (x ∷ path) all =
    ap (λ q. fold onward q path) (part_goes_on at x (All-head IsPlain x path all))
    ∙ plain_walk (at ++ x ∷ []) path (All-tail IsPlain x path all)
    ∙ append_assoc at (x ∷ []) path

build_is_plain : IsPlain build_file
build_is_plain = record { part = record { names = refl; no_slash = refl }; not_up = refl }

both_not : (a b : Bool) → (not a && not b) ≡ true → b ≡ false
both_not true b is = absurd cc
both_not false true is = absurd cc
both_not false false is = refl

folder_plain : (file : List ℕ) → IsFileName file → All IsPlain (file_folder file)
folder_plain file (inl is) = subst (λ f. All IsPlain (file_folder f)) (sym is) (All-nil IsPlain)
folder_plain file (inr (folder, is, plain)) =
    let parts = slash_parts folder in
    let all = all_plain parts (both_not (list_any is_control folder) (list_any goes_nowhere parts) plain) (parts_no_slash [] folder refl) in
    let there : through_parts [] file ≡ parts ++ build_file ∷ [] =
    ap (through_parts []) is ∙ ap (fold onward []) (parts_of_both [] folder build_file) ∙ walk_on [] parts (slash_parts build_file)
    ∙ ap (λ q. fold onward q (slash_parts build_file)) (plain_walk [] parts all) ∙ part_goes_on parts build_file build_is_plain in
    subst (All IsPlain) (sym (ap around there ∙ plain_left parts build_file build_is_plain)) all

-- ---- the laws

pub names-mean-paths : NamesMeanPaths
names-mean-paths file text base relative is_file =
    let folder = file_folder base in
    let path = through_parts (file_folder file) text in
    let normal : IsNormal path = walk_normal (file_folder file) (slash_parts text) (parts_no_slash [] text refl) (folder_normal file) in
    let way = way_from folder path in
    let parts = way_parts folder path normal.parts in
    let name = name_of_way way in
    ap written_path (
    ap (λ b. through_parts (if b then [] ∷ [] else folder) name) (name_is_relative way parts)
    ∙ name_walks folder way parts ∙ way_leads [] folder path refl (folder_plain base is_file) normal.walked
    ∙ ap (λ b. through_parts (if b then [] ∷ [] else file_folder file) text) (sym relative))

-- in the folder of each file of a project, if names are not taken from that of the file of this number
module _ (p : Project Span) (n : ℕ) (name : List ℕ) (base : ℕ) where
  pub name-means-path : ((base == n) ≡ false → IsFileName (file_name p base)) → path_of (file_name p base) (name_for p n name base) ≡ named_path p n name
  name-means-path is_file = go (base == n) refl (is_absolute name) refl
    where
      go : (same : Bool) → (base == n) ≡ same → (absolute : Bool) → is_absolute name ≡ absolute
          → path_of (file_name p base) (if same || absolute then name else name_from (file_name p n) name (file_name p base)) ≡ named_path p n name
      go true equal absolute is = ap (λ k. path_of (file_name p k) name) (eqb-true base n equal)
      go false other true is =
          ap (λ b. written_path (through_parts (if b then [] ∷ [] else file_folder (file_name p base)) name)) is
          ∙ sym (ap (λ b. written_path (through_parts (if b then [] ∷ [] else file_folder (file_name p n)) name)) is)
      go false other false is = names-mean-paths (file_name p n) name (file_name p base) is (is_file other)
