-- The check's answer decides, and an accepted image has the names of its library's entries and cards. Assumes nothing.
--   told-sound, told-refused, naming-sound, naming-refused    what the check answers decides
--   directory-long               the directory in its words
--   directory-is, count-is       that of an accepted image
--   entry-name, card-named       an entry's name, and a card's
use Rattle.std.specs.Prelude.{if◌then◌else◌, Result, Ok, Err}
use Prim.Native.Nat.{ℕ, zero, suc, ◌+◌, ◌-◌, ◌≤◌, ◌<◌}
use native.Mathlib.Omega.{arith}
use native.Mathlib.Decide.{dec_le}
use mathlib.Core.Path.{◌≡◌, refl, sym, ap, ◌∙◌, subst}
use mathlib.Core.Bool.{Bool, true, false, ◌&&◌, ◌||◌, not}
use mathlib.Core.List.{List, []}
use borrow.Author.Tests.{le-leb, lt-leb, le-ltb, lt-ltb, eqb-true, ne_eqb}
use lib.Dec.{T, eqb, ltb}
use lib.ListN.{length, get_or, drop, length-take, length-drop}
use lib.Seq.{get_or-take, get_or-drop}
use Rattle.words.specs.Names.{is_name, name_word, name_of, is_name_word}
use Rattle.words.proofs.TestParts.{true-T}
use Rattle.library.specs.Library.{Library, name_at, purged, reserved}
use Rattle.library.specs.Check.{Checking, good, bad, checked, check, directory_count, directory_of, cards_place}
use Rattle.library.specs.Sound.{is_entry}
use Rattle.library.specs.declared.Refusal.{Refusal}
use Rattle.library.proofs.EntryNames.{name-at}
use Rattle.library.proofs.AcceptedImage.{check-accepted}
use Rattle.library.proofs.CheckSound.{check_sound}
use Rattle.library.proofs.WordsFit.{entry-sound}
use Rattle.library_tables.specs.Found.{Tabled}
use Rattle.library_tables.proofs.TableCounts.{tabled}
use Rattle.keeper_card.specs.Naming.{Showing, in_space, of_checked, card_shown, naming, entry_name}
use Rattle.keeper_card.specs.Parts.{Answers, AnswersOf, word_name, entry_word, pointed}
use Rattle.keeper_card.specs.declared.ShowRefused.{ShowRefused}
use Rattle.keeper_card.specs.declared.ShowRefused.TheVariants.{Library as OfLibrary}

-- THE CHECK'S ANSWERS
module _ (ws before : List ℕ) (f : Library → Showing) where
  pub told-sound : (r : Result ℕ ShowRefused) (after : List ℕ) → Ok tt ≡ checked (check ws) → AnswersOf ws f r before after → Answers (of_checked f (check ws)) r before after
  told-sound r after q h = go (check ws) refl q
    where
      go : (c : Checking) → check ws ≡ c → Ok tt ≡ checked c → Answers (of_checked f (check ws)) r before after
      go (good l) p s = subst (λ (c : Checking). Answers (of_checked f c) r before after) (sym p) (h l p)
      go (bad k n) p s = absurd (let z : ◌≡◌ {A = ℕ} 0 1 = cc in omega arith)

  pub told-refused : (k : Refusal) → Err k ≡ checked (check ws) → Answers (of_checked f (check ws)) (Err (OfLibrary k)) before before
  told-refused k q = go (check ws) refl q
    where
      from : Result (Unit {0}) Refusal → Result ℕ ShowRefused
      from (Ok u) = Err (OfLibrary k)
      from (Err j) = Err (OfLibrary j)

      go : (c : Checking) → check ws ≡ c → Err k ≡ checked c → Answers (of_checked f (check ws)) (Err (OfLibrary k)) before before
      go (good l) p s = absurd (let z : ◌≡◌ {A = ℕ} 0 1 = cc in omega arith)
      go (bad g m) p s = subst (λ (c : Checking). Answers (of_checked f c) (Err (OfLibrary k)) before before) (sym p) (ap from s, refl)

module _ (ws before : List ℕ) (owner seq : ℕ) where
  pub naming-sound : (r : Result ℕ ShowRefused) (after : List ℕ) → Ok tt ≡ checked (check ws) → AnswersOf ws (card_shown owner seq (length before)) r before after
      → Answers (naming ws owner seq (length before)) r before after
  unfolding naming
  naming-sound = told-sound ws before (card_shown owner seq (length before))

  pub naming-refused : (k : Refusal) → Err k ≡ checked (check ws) → Answers (naming ws owner seq (length before)) (Err (OfLibrary k)) before before
  unfolding naming
  naming-refused = told-refused ws before (card_shown owner seq (length before))

-- NO NAME: word 0, and numbers outside the directory
zero-name : word_name 0 ≡ []
unfolding word_name is_name_word is_name name_of
zero-name = refl

none_first : (d : List ℕ) → entry_name d 0 ≡ []
unfolding entry_name
none_first d = refl

none-past : (d : List ℕ) (n : ℕ) → length d < n → entry_name d n ≡ []
unfolding entry_name
none-past d n h = let pos : 0 < n = omega arith in rw (lt-ltb 0 n pos, lt-leb n (length d) h)

-- THE DIRECTORY
pub directory-long : (ws : List ℕ) → Tabled ws → length (directory_of ws) ≡ directory_count ws
directory-long ws t =
    let i : cards_place ws ≤ length ws = t.inside in
    length-take (directory_count ws) (drop 2 ws) ∙ omega (arith, length-drop 2 ws)

module _ (ws : List ℕ) (l : Library) (e : check ws ≡ good l) where
  pub directory-is : l.directory ≡ directory_of ws
  directory-is = sym (ap (λ (m : Library). m.directory) (check-accepted ws l e).same)

  tables-in : Tabled ws
  tables-in = tabled ws (check-accepted ws l e).tables

  pub count-is : length l.directory ≡ directory_count ws
  count-is = ap length directory-is ∙ directory-long ws tables-in

  word-is : (n : ℕ) → 0 < n → n ≤ directory_count ws → get_or ws (n + 1) 0 ≡ name_at l.directory n
  word-is n pos h =
      let i : n + 1 ≡ 2 + (n - 1) = omega arith in
      ap (λ (k : ℕ). get_or ws k 0) i ∙ sym (get_or-drop 2 ws (n - 1) 0) ∙ sym (get_or-take (directory_count ws) (drop 2 ws) (n - 1) 0 (omega arith))
      ∙ sym (name-at (directory_of ws) n pos) ∙ ap (λ (d : List ℕ). name_at d n) (sym directory-is)

  -- a word that stands in the directory
  pub name-is : (n : ℕ) → 0 < n → n ≤ directory_count ws → word_name (name_at l.directory n) ≡ entry_name l.directory n
  unfolding word_name entry_name is_name_word is_name name_of name_word
  name-is n pos h = go (eqb w purged) refl
    where
      w : ℕ
      w = name_at l.directory n

      tests : is_entry l.directory n ≡ not (eqb w purged)
      tests =
          let le : n ≤ length l.directory = omega (arith, count-is) in
          rw (lt-ltb 0 n pos, le-leb n (length l.directory) le) (last (eqb w purged))
        where
          last : (b : Bool) → (not b && true) ≡ not b
          last true = refl
          last false = refl

      is_name_lem : eqb w purged ≡ false → is_name_word w ≡ true
      is_name_lem q = pick (eqb w purged) q (is_name_word w) (entry-sound l.directory n (check_sound ws l e).entries (true-T (is_entry l.directory n) (tests ∙ ap not q)))
        where
          pick : (b : Bool) → b ≡ false → (c : Bool) → T (b || (c && not (eqb w reserved))) → c ≡ true
          pick true q c t = absurd (let z : ◌≡◌ {A = ℕ} 0 1 = cc in omega arith)
          pick false q true t = refl
          pick false q false t = absurd t

      go : (b : Bool) → eqb w purged ≡ b → (if is_name_word w then name_of w else []) ≡ (if is_entry l.directory n then name_of w else [])
      go true q = rw (tests, q, eqb-true w purged q)
      go false q = rw (tests, q, is_name_lem q)

  pub entry-name : (n : ℕ) → word_name (entry_word ws n) ≡ entry_name l.directory n
  unfolding entry_word
  entry-name zero = zero-name ∙ sym (none_first l.directory)
  entry-name (suc n) = rw (ne_eqb (suc n) 0 (λ z. omega (arith, z))) (go (dec_le (suc n) (directory_count ws)))
    where
      go : Dec (suc n ≤ directory_count ws) → word_name (if ltb (directory_count ws) (suc n) then 0 else get_or ws (suc n + 1) 0) ≡ entry_name l.directory (suc n)
      go (yes h) = rw (le-ltb (directory_count ws) (suc n) h) (ap word_name (word-is (suc n) (omega arith) h) ∙ name-is (suc n) (omega arith) h)
      go (no h) =
          let lt : directory_count ws < suc n = omega arith in
          let out : length l.directory < suc n = omega (arith, count-is) in
          rw (lt-ltb (directory_count ws) (suc n) lt) (zero-name ∙ sym (none-past l.directory (suc n) out))

  -- a card's name from its owner's word
  pub card-named : (owner seq : ℕ) (out : List ℕ) (w : ℕ) (name : List ℕ) (r : Result ℕ ShowRefused) {after : List ℕ} → name ≡ word_name w → w ≡ entry_word ws owner
      → Answers (in_space (length out) (length (pointed name seq)) (pointed name seq)) r out after → Answers (card_shown owner seq (length out) l) r out after
  card-named owner seq out w name r {after} en ew h =
      subst (λ (n : List ℕ). Answers (in_space (length out) (length (pointed n seq)) (pointed n seq)) r out after) (en ∙ ap word_name ew ∙ entry-name owner) h
