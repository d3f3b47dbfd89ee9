use Rattle.std.proofs.Common.{◌≡◌, ℕ, ◌≤◌, List, [], ◌∷◌, ◌++◌, get_or, length, take, refl, sym, ap, ◌∙◌, subst}
use Rattle.std.specs.Prelude.{All}
use Rattle.std.specs.Str.{IsUtf8}
use Rattle.std.proofs.lemmas.List.{take_all}
use Rattle.meson_calls.proofs.Loads.{all_more, take_more}
use Rattle.meson_places.specs.Arguments.{last_key}
use Rattle.meson_places.proofs.arguments.last_key.Goals as goal

last_behind : (keys : List (List ℕ)) (key : List ℕ) → last_key (keys ++ key ∷ []) ≡ key
last_behind [] key = refl
last_behind (k ∷ []) key = refl
last_behind (k ∷ l ∷ more) key = last_behind (l ∷ more) key

all_keys : (keys : List (List ℕ)) (i : ℕ) → length keys ≤ i → All IsUtf8 (take i keys) → All IsUtf8 keys
all_keys keys i past all = subst (All IsUtf8) (take_all i keys past) all

pub loop-i-preserved : goal.loop-i-preserved
loop-i-preserved c =
    let keys = c.args.keys.now in
    let i = c.loop-i.i in
    let key = c.index-keys-i.result in
    let within = c.loop-i-test.true in
    let is = c.get-last.ensures ∙ c.index-keys-i.is in
    record {
      utf8 = c.get-last.utf8;
      last = is ∙ sym (ap last_key (take_more keys i key within) ∙ last_behind (take i keys) (get_or keys i key));
      texts = all_more IsUtf8 keys i key within c.loop-i.invariant.texts (subst IsUtf8 is c.get-last.utf8);
    }

pub returns-in_err-from_str-clause-texts : goal.returns-in_err-from_str-clause-texts
returns-in_err-from_str-clause-texts c = all_keys c.args.keys.now c.loop-i.i c.loop-i-test.false c.loop-i.invariant.texts

pub returns-clause-texts : goal.returns-clause-texts
returns-clause-texts c = all_keys c.args.keys.now c.loop-i.i c.loop-i-test.false c.loop-i.invariant.texts
