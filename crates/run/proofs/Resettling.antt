-- All bits settled again: the words have the bits of the flags that the words of YANK$$$ settle.
use Rattle.std.specs.Prelude.{if◌then◌else◌}
use Prim.Native.Nat.{ℕ, ◌≤◌, ◌<◌}
use native.Mathlib.Omega.{arith}
use mathlib.Core.Path.{◌≡◌, refl, sym, ap, ap₂, ◌∙◌, subst, fun_ext}
use mathlib.Core.Bool.{Bool, true, false, ◌&&◌, not}
use mathlib.Core.List.{List, ◌++◌}
use lib.Dec.{T, eqb, eqb→eq}
use lib.ListN.{length, get_or, take, set}
use lib.Seq.{take-append-le, take-take, take_at, length-take-le, get_or-set_same, get_or-set_other}
use Rattle.words.proofs.TestParts.{bool_iff}
use Rattle.words.specs.Base.{any}
use Rattle.library.specs.Library.{Card, Library}
use Rattle.library.specs.Yanks.{Yank, covers, last_says, yanked}
use Rattle.library.specs.Settled.{NamesLower}
use Rattle.library.specs.Growth.{count}
use Rattle.library.specs.Image.{cards_words}
use Rattle.library.specs.Sound.{Sound}
use Rattle.library.proofs.EachTest.{each_map}
use Rattle.library.proofs.AnyAndAll.{any_false}
use Rattle.library.proofs.YankTargets.{sound-lower}
use Rattle.library.proofs.SettledFlags.{yank_list, flags, yanked-rule}
use Rattle.library_yanks.specs.Flags.{settled_flags}
use Rattle.library_yanks.proofs.Yanking.{settled-yanked}
use Rattle.library.proofs.LimitsByCount.{cards-size, cards-append}
use Rattle.run_meaning.specs.Step.{State}
use Rattle.library_yanks_bits.specs.SettledBits.{flagged}
use Rattle.run.specs.Work.{Work, Resettles}
use Rattle.run.specs.Desk.{Sane, Held, HeldUnder}
use Rattle.run.specs.Resettled.{Resettled}
use Rattle.run.specs.declared.gap.Gap.{Gap}
use Rattle.run.specs.declared.desk.Desk.{Desk}
use Rattle.run_meaning.proofs.FlatFind.{eqb_yes}
use Rattle.run.proofs.YankPutting.{deck_cards_of, stream-is}

-- NO NUMBER IS 0
pub zero-free : (l : Library) → Sound l → yanked l 0 0 ≡ false
zero-free l s = yanked-rule l 0 0 ∙ any_false (λ y. any (covers 0 0) y.acts && last_says (flags l) false y.bytes) (yank_list l) (each_map _ _ (λ y h. off y h) (yank_list l) (sound-lower l s))
  where
    off : (y : Yank) → NamesLower (count l) y → (any (covers 0 0) y.acts && last_says (flags l) false y.bytes) ≡ false
    off y h =
        ap (λ (b : Bool). b && last_says (flags l) false y.bytes)
        (bool_iff (any (covers 0 0) y.acts) false (λ t. absurd (omega (arith, (h 0 t).0))) (λ t. absurd t))

-- the words of YANK$$$, where all of them stand below the gap
pub lead-words : (w : List ℕ) (g : Gap) (yk : ℕ → Bool) (cs1 cs2 ys rest : List Card) (n : ℕ) → g.lo ≤ length w → Work w g yk cs1 cs2 → cs1 ++ cs2 ≡ ys ++ rest
    → n ≡ length (cards_words yk ys) → n ≤ g.lo → take n w ≡ cards_words yk ys
lead-words w g yk cs1 cs2 ys rest n low k e is le =
    let x : List ℕ = cards_words yk cs1 in
    let y : List ℕ = cards_words yk ys in
    let a : length (take g.lo w) ≡ length x = ap length k.parted.under in
    let b : length (take g.lo w) ≡ g.lo = length-take-le g.lo w low in
    let j : n ≤ length x = omega arith in
    let f : x ++ cards_words yk cs2 ≡ y ++ cards_words yk rest = sym (cards-append yk cs1 cs2) ∙ ap (cards_words yk) e ∙ cards-append yk ys rest in
    sym (take-take n g.lo w le) ∙ ap (take n) k.parted.under ∙ sym (take-append-le n x (cards_words yk cs2) j) ∙ ap (take n) f ∙ take_at y (cards_words yk rest) n (sym is)

-- the flags, the first of them cleared
flag-back : (b : Bool) → not (eqb (if b then 1 else 0) 0) ≡ b
flag-back true = refl
flag-back false = refl

module _ (l : Library) (yk : ℕ → Bool) (size : ℕ) (f : List ℕ) (s : Sound l) (lt : length l.directory < size) (is : f ≡ settled_flags l.directory (cards_words yk l.yanks) size)
    (some : 0 < length f) where
  pub flags-are : (m : ℕ) → flagged (set f 0 0) m ≡ yanked l 0 m
  unfolding flagged
  flags-are m = go (eqb m 0) (eqb→eq m 0) (λ e. eqb_yes m 0 e)
    where
      go : (b : Bool) → (T b → m ≡ 0) → (m ≡ 0 → b ≡ true) → not (eqb (get_or (set f 0 0) m 0) 0) ≡ yanked l 0 m
      go true h k =
          ap (λ (n : ℕ). not (eqb (get_or (set f 0 0) n 0) 0)) (h tt)
          ∙ ap (λ (n : ℕ). not (eqb n 0)) (get_or-set_same f 0 0 0 some)
          ∙ sym (zero-free l s) ∙ ap (yanked l 0) (sym (h tt))
      go false h k =
          ap (λ (n : ℕ). not (eqb n 0)) (get_or-set_other f 0 m 0 0 (λ e. let z : ◌≡◌ {A = Bool} false true = k e in subst (λ (x : Bool). T (not x)) z tt))
          ∙ ap (λ (x : List ℕ). not (eqb (get_or x m 0) 0)) is
          ∙ ap (λ (n : ℕ). not (eqb n 0)) (settled-yanked l s yk size lt m) ∙ flag-back (yanked l 0 m)

-- THE LIBRARY IN WORK, settled
module _ (w dir : List ℕ) (d : Desk) (size : ℕ) (f v : List ℕ) (sane : Sane w d) (low : d.lead ≤ d.gap.lo) (long : 1024 < size)
    (is : f ≡ settled_flags (take d.entries dir) (take d.lead w) size) (same : length f ≡ size) (settles : Resettles w d.gap (flagged (set f 0 0)) v)
    (yk : ℕ → Bool) (names decks : List ℕ) (s : State) (held : HeldUnder yk w dir names decks d s) where
  abbrev l : Library
  l = s.lib

  lead : take d.lead w ≡ cards_words yk l.yanks
  lead =
      lead-words w d.gap yk held.below held.above l.yanks (deck_cards_of l) d.lead (omega (arith, sane.ordered.0, sane.ordered.1)) held.work (held.whole ∙ stream-is l) held.leads low

  new : (m : ℕ) → flagged (set f 0 0) m ≡ yanked l 0 m
  new =
      flags-are l yk size f held.safe.sound (omega (arith, sane.entries, held.tables.entries))
      (is ∙ ap₂ (λ (a b : List ℕ). settled_flags a b size) held.tables.directory lead) (omega arith)

  settled-held : Held v dir names decks (set f 0 0) d s
  settled-held = record {
    below = held.below;
    above = held.above;
    work = subst (λ (k : ℕ → Bool). Work v d.gap k held.below held.above) (fun_ext new) (settles yk held.below held.above held.work);
    whole = held.whole;
    low = held.low;
    cards = held.cards;
    tables = held.tables;
    yanks = held.yanks;
    leads = held.leads ∙ cards-size yk (yanked l 0) l.yanks;
    settled = new;
    set = held.set;
    next = held.next;
    place = held.place;
    safe = held.safe;
  }

pub resettled-on : (w dir : List ℕ) (d : Desk) (size : ℕ) (f v : List ℕ) → Sane w d → d.lead ≤ d.gap.lo → 1024 < size
    → f ≡ settled_flags (take d.entries dir) (take d.lead w) size → length f ≡ size → Resettles w d.gap (flagged (set f 0 0)) v → Resettled w dir d v (set f 0 0)
resettled-on w dir d size f v sane low long is same settles yk names decks s held = settled-held w dir d size f v sane low long is same settles yk names decks s held

-- the first flag is 0
pub first-clear : (f : List ℕ) → 0 < length f → flagged (set f 0 0) 0 ≡ false
unfolding flagged
first-clear f lt = ap (λ (n : ℕ). not (eqb n 0)) (get_or-set_same f 0 0 0 lt)
