-- Build files before a source is renamed, and after it, where variables are followed.
use Rattle.std.specs.Prelude.{ℕ, List, [], ◌∷◌, codes}
use Rattle.meson_syntax.specs.Tree.{conditional}
use Rattle.meson_calls.specs.declared.refusal.Refusal.TheVariants.{BadName, NotRemovable, Shared, SourceNotFound, ThereAlready, Unresolved}
use Rattle.meson_following.specs.Samples.{adds, alone, beside_s, each, enters, holding, sets, sets_to, src, sum_of, target, text, variable, where_x}
use Rattle.meson_followed.specs.Renaming.{followed_renamed}
use Rattle.meson_followed.specs.Rows.{Command, IsRefused, IsRefusedInside, Makes, MakesInside, MakesShared, adds_to, both, common, either_of, files_above, files_in_s, files_of, made, two_of}

abbrev rename : (old new : List ℕ) → Command
rename old new shared p c = followed_renamed p c shared old new

abbrev pub RenamedInPlace : Type 0
RenamedInPlace =
    -- in its list, which keeps its order
    Makes (alone (sets_to (both (codes "b.c") (codes "a.c")) ∷ target ∷ [])) 1 (rename (codes "b.c") (codes "c.c"))
    (alone (sets_to (both (codes "c.c") (codes "a.c")) ∷ target ∷ []))
    -- in a branch
    × Makes (alone (sets (codes "a.c") ∷ where_x (adds (codes "b.c") ∷ []) ∷ target ∷ [])) 2 (rename (codes "b.c") (codes "n.c"))
    (alone (sets (codes "a.c") ∷ where_x (adds (codes "n.c") ∷ []) ∷ target ∷ []))
    -- in both branches
    × Makes (either_of (codes "l.c") (codes "a.c") (codes "w.c") (codes "a.c")) 1 (rename (codes "a.c") (codes "n.c"))
    (either_of (codes "l.c") (codes "n.c") (codes "w.c") (codes "n.c"))
    -- in both answers of a conditional
    × Makes (alone (made (conditional tt (variable (codes "x")) (holding (codes "a.c")) (holding (codes "./a.c")) ∷ []) ∷ [])) 0
    (rename (codes "a.c") (codes "n.c"))
    (alone (made (conditional tt (variable (codes "x")) (holding (codes "n.c")) (holding (codes "n.c")) ∷ []) ∷ []))
    -- in a loop, and in a sum
    × Makes (alone (sets (codes "a.c") ∷ each (codes "x") (adds (codes "b.c") ∷ []) ∷ target ∷ [])) 2 (rename (codes "b.c") (codes "n.c"))
    (alone (sets (codes "a.c") ∷ each (codes "x") (adds (codes "n.c") ∷ []) ∷ target ∷ []))
    × Makes (alone (sets (codes "a.c") ∷ sets_to (sum_of (holding (codes "b.c")) (variable src)) ∷ target ∷ [])) 2 (rename (codes "a.c") (codes "n.c"))
    (alone (sets (codes "n.c") ∷ sets_to (sum_of (holding (codes "b.c")) (variable src)) ∷ target ∷ []))
    -- as it is given: the old name is a path, and so is the new one
    × Makes (alone (sets (codes "s/a.c") ∷ target ∷ [])) 1 (rename (codes "t/..//s/a.c") (codes "./t/../n.c")) (alone (sets (codes "./t/../n.c") ∷ target ∷ []))

-- `src = files('a.c')` in the folder `s`, below the target
abbrev FromAbove : (old new written : List ℕ) → Type 0
FromAbove old new written = Makes (files_in_s (codes "a.c") (target ∷ [])) 1 (rename old new) (files_in_s written (target ∷ []))

-- `common = files('c.c')` above the target's folder
abbrev FromBelow : (old new written : List ℕ) → Type 0
FromBelow old new written =
    MakesInside (files_above (text (codes "c.c") ∷ []) (text (codes "a.c") ∷ variable common ∷ [])) 0 (rename old new)
    (files_above (text written ∷ []) (text (codes "a.c") ∷ variable common ∷ []))

abbrev pub RenamedAcrossFolders : Type 0
RenamedAcrossFolders =
    FromAbove (codes "s/a.c") (codes "s/b.c") (codes "b.c")
    × FromAbove (codes "s/a.c") (codes "t/b.c") (codes "../t/b.c")
    × FromAbove (codes "s/a.c") (codes "s/t/b.c") (codes "t/b.c")
    × FromAbove (codes "s/a.c") (codes "../b.c") (codes "../../b.c")
    × FromAbove (codes "s/a.c") (codes "s") (codes ".")
    × FromAbove (codes "s/a.c") (codes "/b.c") (codes "/b.c")
    × FromBelow (codes "../c.c") (codes "../d.c") (codes "d.c")
    × FromBelow (codes "../c.c") (codes "d.c") (codes "s/d.c")
    × FromBelow (codes "../c.c") (codes "../../d.c") (codes "../d.c")
    -- a string is a path from the folder of the target, and `files` of the target's own file is of its folder
    × Makes (beside_s (enters (codes "s") ∷ target ∷ []) (sets (codes "s/a.c") ∷ [])) 1 (rename (codes "s/a.c") (codes "s/./b.c"))
    (beside_s (enters (codes "s") ∷ target ∷ []) (sets (codes "s/./b.c") ∷ []))
    × Makes (alone (sets_to (files_of (text (codes "a.c") ∷ [])) ∷ target ∷ [])) 1 (rename (codes "a.c") (codes "s//b.c"))
    (alone (sets_to (files_of (text (codes "s//b.c") ∷ [])) ∷ target ∷ []))

abbrev pub RenamesRefused : Type 0
RenamesRefused =
    -- a source has the path of the new name, be it in one evaluation alone
    IsRefused (alone (sets_to (both (codes "b.c") (codes "a.c")) ∷ target ∷ [])) 1 (rename (codes "b.c") (codes "a.c")) ThereAlready
    × IsRefused (alone (sets (codes "a.c") ∷ where_x (adds (codes "b.c") ∷ []) ∷ target ∷ [])) 2 (rename (codes "a.c") (codes "./b.c")) ThereAlready
    -- the one that is renamed, too
    × IsRefused (alone (sets (codes "a.c") ∷ target ∷ [])) 1 (rename (codes "a.c") (codes "a.c")) ThereAlready
    × IsRefusedInside (files_above (text (codes "c.c") ∷ []) (text (codes "a.c") ∷ variable common ∷ [])) 0 (rename (codes "a.c") (codes "../c.c")) ThereAlready
    -- none has the path of the old one
    × IsRefused (alone (sets (codes "a.c") ∷ target ∷ [])) 1 (rename (codes "b.c") (codes "a.c")) SourceNotFound
    × IsRefused (alone (target ∷ [])) 0 (rename (codes "a.c") (codes "b.c")) Unresolved
    × IsRefused (files_in_s (codes "a.c") (target ∷ [])) 1 (rename (codes "a.c") (codes "n.c")) SourceNotFound
    -- `src += 'b.c'`
    × IsRefused (alone (sets (codes "a.c") ∷ adds_to (text (codes "b.c")) ∷ target ∷ [])) 2 (rename (codes "b.c") (codes "a.c")) NotRemovable
    -- an empty name
    × IsRefused (alone (sets (codes "a.c") ∷ target ∷ [])) 1 (rename (codes "a.c") []) BadName
    -- a list that another target gets too
    × IsRefused (two_of (sets (codes "a.c") ∷ []) [] []) 1 (rename (codes "a.c") (codes "n.c")) (Shared src)
    × MakesShared (two_of (sets (codes "a.c") ∷ []) [] []) 1 (rename (codes "a.c") (codes "n.c")) (two_of (sets (codes "n.c") ∷ []) [] [])
    × Makes (two_of (sets (codes "a.c") ∷ []) (text (codes "e.c") ∷ []) []) 1 (rename (codes "e.c") (codes "n.c"))
    (two_of (sets (codes "a.c") ∷ []) (text (codes "n.c") ∷ []) [])
