-- What chosen decks write, whatever the space: a walk writes it in full or is stopped with 43 or 44.
-- a walk writes it in full or is stopped with 43 or 44.
use Rattle.std.specs.Prelude.{if◌then◌else◌}
use Prim.Native.Nat.{ℕ, zero, suc, ◌+◌, ◌≤◌, ◌<◌}
use native.Mathlib.Omega.{arith}
use mathlib.Core.Path.{◌≡◌, refl, sym, ap, ◌∙◌, subst}
use mathlib.Core.Bool.{Bool, true, false, not}
use mathlib.Core.List.{List, [], ◌∷◌, ◌++◌, map, append_assoc, append-nil}
use lib.Dec.{T, ltb, ltb→lt, nltb→le}
use lib.ListN.{length, length-append}
use Rattle.words_lines.specs.Directive.{call_of}
use Rattle.words_lines.specs.declared.Call.{Call}
use Rattle.words_lines.specs.declared.Call.TheVariants.{Not, Of, Malformed}
use Rattle.compile_walk.specs.View.{Shown, DeckView}
use Rattle.compile_walk.specs.Walk.{printed, Found, missing, not_common, common, called_deck, Walk, walked, halted, halt_at, then_on, Inner, open_deck, at_card, walk_cards, called, walk_decks}
use Rattle.compile_walk.specs.declared.Stop.{Stop}
use Rattle.compile_walk.specs.declared.Stop.TheVariants.{NoDeck, NotCommon, Deep, Many, Space}
use Rattle.compile_walk.specs.Ends.{Ends, in_full, too_many, no_space}

-- THE RELATION: In says what the cards of a called deck write, the call counted
pub data Writes (ds : List DeckView) (In : List Shown → List (List ℕ) → ℕ → Type 0) : List Shown → List (List ℕ) → ℕ → Type 0 where
  wrote_none : Writes ds In [] [] 0
  wrote_line : {c : Shown} {cs : List Shown} {ls : List (List ℕ)} {n : ℕ} → call_of c.line ≡ Not → Writes ds In cs ls n → Writes ds In (c ∷ cs) (printed c ∷ ls) n
  wrote_call : {c : Shown} {cs : List Shown} {w : ℕ} {inner : List Shown} {ks ls : List (List ℕ)} {k n : ℕ} → call_of c.line ≡ Of w → called_deck w ds ≡ common inner
      → In inner ks k → Writes ds In cs ls n → Writes ds In (c ∷ cs) (ks ++ ls) (k + n)

-- with so many levels left
abbrev pub Calls : List DeckView → ℕ → List Shown → List (List ℕ) → ℕ → Type 0
Calls ds zero cs ls n = ⊥
Calls ds (suc depth) cs ls n = (k : ℕ) × (n ≡ suc k) × Writes ds (Calls ds depth) cs ls k

pub data WritesDecks (ds : List DeckView) : List DeckView → List (List ℕ) → ℕ → Type 0 where
  wrote_no_deck : WritesDecks ds [] [] 0
  wrote_deck : {d : DeckView} {rest : List DeckView} {ks ls : List (List ℕ)} {k n : ℕ} → Writes ds (Calls ds 8) d.lines ks k → WritesDecks ds rest ls n
      → WritesDecks ds (d ∷ rest) (ks ++ ls) (k + n)

-- A WALK THAT CAME TO ITS END wrote some lines more, with some calls more
pub record Wrote (W : List (List ℕ) → ℕ → Type 0) (ls : List (List ℕ)) (n : ℕ) (ls' : List (List ℕ)) (n' : ℕ) : Type 0 where
  pub lines : List (List ℕ)
  pub calls : ℕ
  pub writes : W lines calls
  pub after : ls' ≡ ls ++ lines
  pub count : n' ≡ n + calls

walked-halted : {A : Type 0} (k : Stop) (o s : ℕ) (ls : List (List ℕ)) (n : ℕ) → halted k o s ≡ walked ls n → A
walked-halted {A} k o s ls n e = absurd (subst is_halted e tt)
  where
    is_halted : Walk → Type 0
    is_halted (halted i x y) = Unit {0}
    is_halted (walked xs j) = ⊥

walked_lines : (ls ms : List (List ℕ)) (n k : ℕ) → walked ls n ≡ walked ms k → ms ≡ ls
walked_lines ls ms n k e = ap lines_of (sym e)
  where
    lines_of : Walk → List (List ℕ)
    lines_of (walked xs j) = xs
    lines_of (halted i x y) = []

walked-calls : (ls ms : List (List ℕ)) (n k : ℕ) → walked ls n ≡ walked ms k → k ≡ n
walked-calls ls ms n k e = ap calls_of (sym e)
  where
    calls_of : Walk → ℕ
    calls_of (walked xs j) = j
    calls_of (halted i x y) = 0

-- a walk that goes on came to its end only if its first part did
on-end : (A : Type 0) (w : Walk) (f : List (List ℕ) → ℕ → Walk) (ls : List (List ℕ)) (n : ℕ) → then_on w f ≡ walked ls n
    → ((ms : List (List ℕ)) (k : ℕ) → w ≡ walked ms k → f ms k ≡ walked ls n → A) → A
on-end A (walked ms k) f ls n e g = g ms k refl e
on-end A (halted i o s) f ls n e g = walked-halted i o s ls n e

module _ (ds : List DeckView) (room : ℕ) where
  abbrev Ended : (List Shown → List (List ℕ) → ℕ → Type 0) → Inner → Type 0
  Ended In inner = (c : Shown) (cs : List Shown) (ls : List (List ℕ)) (n : ℕ) (ls' : List (List ℕ)) (n' : ℕ) → inner c cs ls n ≡ walked ls' n' → Wrote (In cs) ls n ls' n'

  module _ (In : List Shown → List (List ℕ) → ℕ → Type 0) (inner : Inner) (ended : Ended In inner) where
    -- one card ahead of the others
    data Card (c : Shown) (ls : List (List ℕ)) (n : ℕ) (ms : List (List ℕ)) (k : ℕ) : Type 0 where
      is_line : call_of c.line ≡ Not → ms ≡ ls ++ (printed c ∷ []) → k ≡ n → Card c ls n ms k
      is_call : (w : ℕ) (cs : List Shown) → call_of c.line ≡ Of w → called_deck w ds ≡ common cs → Wrote (In cs) ls n ms k → Card c ls n ms k

    card-end : (c : Shown) (ls : List (List ℕ)) (n : ℕ) (ms : List (List ℕ)) (k : ℕ) (a : Call) → call_of c.line ≡ a → at_card ds room inner c a ls n ≡ walked ms k → Card c ls n ms k
    card-end c ls n ms k Malformed q e = walked-halted NoDeck c.owner c.seq ms k e
    card-end c ls n ms k Not q e = go (ltb (length ls) room) e
      where
        go : (b : Bool) → (if b then walked (ls ++ (printed c ∷ [])) n else halt_at Space c) ≡ walked ms k → Card c ls n ms k
        go true u = is_line q (walked_lines (ls ++ (printed c ∷ [])) ms n k u) (walked-calls (ls ++ (printed c ∷ [])) ms n k u)
        go false u = walked-halted Space c.owner c.seq ms k u
    card-end c ls n ms k (Of w) q e = go (called_deck w ds) refl e
      where
        go : (f : Found) → called_deck w ds ≡ f → open_deck c f (λ cs. inner c cs ls n) ≡ walked ms k → Card c ls n ms k
        go missing p u = walked-halted NoDeck c.owner c.seq ms k u
        go not_common p u = walked-halted NotCommon c.owner c.seq ms k u
        go (common cs) p u = is_call w cs q p (ended c cs ls n ms k u)

    joined-up : (c : Shown) (cs : List Shown) (ls : List (List ℕ)) (n : ℕ) (ms : List (List ℕ)) (k : ℕ) (ls' : List (List ℕ)) (n' : ℕ)
        → Card c ls n ms k → Wrote (Writes ds In cs) ms k ls' n' → Wrote (Writes ds In (c ∷ cs)) ls n ls' n'
    joined-up c cs ls n ms k ls' n' (is_line q e f) r = record {
      lines = printed c ∷ r.lines;
      calls = r.calls;
      writes = wrote_line q r.writes;
      after = r.after ∙ ap (λ (x : List (List ℕ)). x ++ r.lines) e ∙ append_assoc ls (printed c ∷ []) r.lines;
      count = r.count ∙ ap (λ (x : ℕ). x + r.calls) f;
    }
    joined-up c cs ls n ms k ls' n' (is_call w ys q p b) r = record {
      lines = b.lines ++ r.lines;
      calls = b.calls + r.calls;
      writes = wrote_call q p b.writes r.writes;
      after = r.after ∙ ap (λ (x : List (List ℕ)). x ++ r.lines) b.after ∙ append_assoc ls b.lines r.lines;
      count = omega (arith, r.count, b.count);
    }

    cards-end : (cs : List Shown) (ls : List (List ℕ)) (n : ℕ) (ls' : List (List ℕ)) (n' : ℕ) → walk_cards ds room inner cs ls n ≡ walked ls' n' → Wrote (Writes ds In cs) ls n ls' n'
    cards-end [] ls n ls' n' e = record {
      lines = [];
      calls = 0;
      writes = wrote_none;
      after = walked_lines ls ls' n n' e ∙ sym (append-nil ls);
      count = let f : n' ≡ n = walked-calls ls ls' n n' e in omega arith;
    }
    cards-end (c ∷ cs) ls n ls' n' e =
        on-end (Wrote (Writes ds In (c ∷ cs)) ls n ls' n') (at_card ds room inner c (call_of c.line) ls n) (λ ms k. walk_cards ds room inner cs ms k) ls' n' e
        (λ ms k p q. joined-up c cs ls n ms k ls' n' (card-end c ls n ms k (call_of c.line) refl p) (cards-end cs ms k ls' n' q))

  called-end : (depth : ℕ) → Ended (Calls ds depth) (called ds room depth)
  called-end zero c cs ls n ls' n' e = walked-halted Deep c.owner c.seq ls' n' e
  called-end (suc depth) c cs ls n ls' n' e = go (ltb n 4096) e (cards-end (Calls ds depth) (called ds room depth) (called-end depth) cs ls (suc n) ls' n')
    where
      go : (b : Bool) → (if b then walk_cards ds room (called ds room depth) cs ls (suc n) else halt_at Many c) ≡ walked ls' n'
          → (walk_cards ds room (called ds room depth) cs ls (suc n) ≡ walked ls' n' → Wrote (Writes ds (Calls ds depth) cs) ls (suc n) ls' n')
          → Wrote (Calls ds (suc depth) cs) ls n ls' n'
      go true u f = let r : Wrote (Writes ds (Calls ds depth) cs) ls (suc n) ls' n' = f u in record {
        lines = r.lines;
        calls = suc r.calls;
        writes = (r.calls, refl, r.writes);
        after = r.after;
        count = omega (arith, r.count);
      }
      go false u f = walked-halted Many c.owner c.seq ls' n' u

  decks-end : (chosen : List DeckView) (ls : List (List ℕ)) (n : ℕ) (ls' : List (List ℕ)) (n' : ℕ) → walk_decks ds room chosen ls n ≡ walked ls' n' → Wrote (WritesDecks ds chosen) ls n ls' n'
  decks-end [] ls n ls' n' e = record {
    lines = [];
    calls = 0;
    writes = wrote_no_deck;
    after = walked_lines ls ls' n n' e ∙ sym (append-nil ls);
    count = let f : n' ≡ n = walked-calls ls ls' n n' e in omega arith;
  }
  decks-end (d ∷ rest) ls n ls' n' e =
      on-end (Wrote (WritesDecks ds (d ∷ rest)) ls n ls' n') (walk_cards ds room (called ds room 8) d.lines ls n) (λ ms k. walk_decks ds room rest ms k) ls' n' e
      (λ ms k p q. both ms k (cards-end (Calls ds 8) (called ds room 8) (called-end 8) d.lines ls n ms k p) (decks-end rest ms k ls' n' q))
    where
      both : (ms : List (List ℕ)) (k : ℕ) → Wrote (Writes ds (Calls ds 8) d.lines) ls n ms k → Wrote (WritesDecks ds rest) ms k ls' n' → Wrote (WritesDecks ds (d ∷ rest)) ls n ls' n'
      both ms k b r = record {
        lines = b.lines ++ r.lines;
        calls = b.calls + r.calls;
        writes = wrote_deck b.writes r.writes;
        after = r.after ∙ ap (λ (x : List (List ℕ)). x ++ r.lines) b.after ∙ append_assoc ls b.lines r.lines;
        count = omega (arith, r.count, b.count);
      }

pub walk-writes : (ds : List DeckView) (room : ℕ) (chosen : List DeckView) (ls : List (List ℕ)) (n : ℕ) → walk_decks ds room chosen [] 0 ≡ walked ls n → WritesDecks ds chosen ls n
walk-writes ds room chosen ls n e =
    let r : Wrote (WritesDecks ds chosen) [] 0 ls n = decks-end ds room chosen [] 0 ls n e in
    let f : r.calls ≡ n = omega (arith, r.count) in
    subst (λ (x : List (List ℕ)). WritesDecks ds chosen x n) (sym r.after) (subst (λ (x : ℕ). WritesDecks ds chosen r.lines x) f r.writes)

-- IN ANY SPACE, from any lines and calls that are within it
ends_at : (room : ℕ) {ls ms : List (List ℕ)} {n k : ℕ} {w : Walk} → ls ≡ ms → n ≡ k → Ends room ls n w → Ends room ms k w
ends_at room {ls = ls} {k = k} {w = w} e f h = subst (λ (x : List (List ℕ)). Ends room x k w) e (subst (λ (x : ℕ). Ends room ls x w) f h)

-- what was stopped stays stopped with more to write
more-to : (room : ℕ) (ls ks : List (List ℕ)) (n k : ℕ) (w : Walk) (f : List (List ℕ) → ℕ → Walk) → Ends room ls n w
    → (length ls ≤ room → n ≤ 4096 → Ends room (ls ++ ks) (n + k) (f ls n)) → Ends room (ls ++ ks) (n + k) (then_on w f)
more-to room ls ks n k w f (in_full a b) g = g a b
more-to room ls ks n k w f (too_many o s lt) g = too_many o s (omega arith)
more-to room ls ks n k w f (no_space o s lt) g = no_space o s (omega (arith, length-append ls ks))

module _ (ds : List DeckView) (room : ℕ) where
  abbrev Runs : (List Shown → List (List ℕ) → ℕ → Type 0) → Inner → Type 0
  Runs In inner = (c : Shown) (cs : List Shown) (ks : List (List ℕ)) (k : ℕ) → In cs ks k → (ls : List (List ℕ)) (n : ℕ) → length ls ≤ room → n ≤ 4096
      → Ends room (ls ++ ks) (n + k) (inner c cs ls n)

  module _ (In : List Shown → List (List ℕ) → ℕ → Type 0) (inner : Inner) (runs : Runs In inner) where
    cards-run : {cs : List Shown} {ks : List (List ℕ)} {k : ℕ} → Writes ds In cs ks k → (ls : List (List ℕ)) (n : ℕ) → length ls ≤ room → n ≤ 4096
        → Ends room (ls ++ ks) (n + k) (walk_cards ds room inner cs ls n)
    cards-run wrote_none ls n a b = ends_at room (sym (append-nil ls)) (omega arith) (in_full a b)
    cards-run (wrote_line {c} {cs} {ls = ks} {n = k} q r) ls n a b =
        ends_at room (append_assoc ls (printed c ∷ []) ks) refl
        (more-to room (ls ++ (printed c ∷ [])) ks n k (at_card ds room inner c (call_of c.line) ls n) (λ ms j. walk_cards ds room inner cs ms j)
        (subst (λ (x : Call). Ends room (ls ++ (printed c ∷ [])) n (at_card ds room inner c x ls n)) (sym q) (go (ltb (length ls) room) (ltb→lt (length ls) room) (nltb→le (length ls) room)))
        (λ d e. cards-run r (ls ++ (printed c ∷ [])) n d e))
      where
        go : (x : Bool) → (T x → length ls < room) → (T (not x) → room ≤ length ls) → Ends room (ls ++ (printed c ∷ [])) n (if x then walked (ls ++ (printed c ∷ [])) n else halt_at Space c)
        go true f g = let lt : length ls < room = f tt in in_full (omega (arith, length-append ls (printed c ∷ []))) b
        go false f g = let le : room ≤ length ls = g tt in no_space c.owner c.seq (omega (arith, length-append ls (printed c ∷ [])))
    cards-run (wrote_call {c} {cs} {w} {inner = ys} {ks = js} {ls = ks} {k = j} {n = k} q p i r) ls n a b =
        ends_at room (append_assoc ls js ks) (omega arith)
        (more-to room (ls ++ js) ks (n + j) k (at_card ds room inner c (call_of c.line) ls n) (λ ms x. walk_cards ds room inner cs ms x)
        (subst (λ (x : Call). Ends room (ls ++ js) (n + j) (at_card ds room inner c x ls n)) (sym q)
        (subst (λ (x : Found). Ends room (ls ++ js) (n + j) (open_deck c x (λ zs. inner c zs ls n))) (sym p) (runs c ys js j i ls n a b)))
        (λ d e. cards-run r (ls ++ js) (n + j) d e))

  called-run : (depth : ℕ) → Runs (Calls ds depth) (called ds room depth)
  called-run zero c cs ks k i ls n a b = absurd i
  called-run (suc depth) c cs ks k i ls n a b =
      go (ltb n 4096) (ltb→lt n 4096) (nltb→le n 4096) (λ e. cards-run (Calls ds depth) (called ds room depth) (called-run depth) i.2 ls (suc n) a e)
    where
      go : (x : Bool) → (T x → n < 4096) → (T (not x) → 4096 ≤ n)
          → (suc n ≤ 4096 → Ends room (ls ++ ks) (suc n + i.0) (walk_cards ds room (called ds room depth) cs ls (suc n)))
          → Ends room (ls ++ ks) (n + k) (if x then walk_cards ds room (called ds room depth) cs ls (suc n) else halt_at Many c)
      go true f g h = ends_at room refl (omega (arith, i.1)) (h (f tt))
      go false f g h = let le : 4096 ≤ n = g tt in too_many c.owner c.seq (omega (arith, i.1))

  decks-run : {chosen : List DeckView} {ks : List (List ℕ)} {k : ℕ} → WritesDecks ds chosen ks k → (ls : List (List ℕ)) (n : ℕ) → length ls ≤ room → n ≤ 4096
      → Ends room (ls ++ ks) (n + k) (walk_decks ds room chosen ls n)
  decks-run wrote_no_deck ls n a b = ends_at room (sym (append-nil ls)) (omega arith) (in_full a b)
  decks-run (wrote_deck {d} {rest} {ks = js} {ls = ks} {k = j} {n = k} w r) ls n a b =
      ends_at room (append_assoc ls js ks) (omega arith)
      (more-to room (ls ++ js) ks (n + j) k (walk_cards ds room (called ds room 8) d.lines ls n) (λ ms x. walk_decks ds room rest ms x)
      (cards-run (Calls ds 8) (called ds room 8) (called-run 8) w ls n a b) (λ e f. decks-run r (ls ++ js) (n + j) e f))

pub writes-walk : (ds : List DeckView) (room : ℕ) {chosen : List DeckView} {ls : List (List ℕ)} {n : ℕ} → WritesDecks ds chosen ls n → Ends room ls n (walk_decks ds room chosen [] 0)
writes-walk ds room w = ends_at room refl (omega arith) (decks-run ds room w [] 0 (omega arith) (omega arith))

-- CHOICES ONE AFTER ANOTHER
pub writes-append : (ds : List DeckView) {xs ys : List DeckView} {ls ms : List (List ℕ)} {n k : ℕ} → WritesDecks ds xs ls n → WritesDecks ds ys ms k → WritesDecks ds (xs ++ ys) (ls ++ ms) (n + k)
writes-append ds {ys = ys} {ms = ms} {k = k} wrote_no_deck r = let e : k ≡ 0 + k = omega arith in subst (λ (x : ℕ). WritesDecks ds ys ms x) e r
writes-append ds {ys = ys} {ms = ms} {k = k} (wrote_deck {d} {rest} {ks = js} {ls = ls} {k = j} {n = n} w t) r =
    let e : j + (n + k) ≡ j + n + k = omega arith in
    subst (λ (x : ℕ). WritesDecks ds (d ∷ (rest ++ ys)) ((js ++ ls) ++ ms) x) e
    (subst (λ (x : List (List ℕ)). WritesDecks ds (d ∷ (rest ++ ys)) x (j + (n + k))) (sym (append_assoc js ls ms)) (wrote_deck w (writes-append ds t r)))

-- IN OTHER DECKS: where each deck that is found has its cards changed by f, and f keeps what is read and printed of a card
module _ (ds es : List DeckView) (f : Shown → Shown) (line : (c : Shown) → (f c).line ≡ c.line) (same : (c : Shown) → printed (f c) ≡ printed c)
    (looks : (w : ℕ) (cs : List Shown) → called_deck w ds ≡ common cs → called_deck w es ≡ common (map f cs)) where
  cards-other : (In On : List Shown → List (List ℕ) → ℕ → Type 0) → ((cs : List Shown) (ls : List (List ℕ)) (n : ℕ) → In cs ls n → On (map f cs) ls n)
      → {cs : List Shown} {ls : List (List ℕ)} {n : ℕ} → Writes ds In cs ls n → Writes es On (map f cs) ls n
  cards-other In On g wrote_none = wrote_none
  cards-other In On g (wrote_line {c} {cs} {ls} {n} q r) =
      subst (λ (x : List ℕ). Writes es On (f c ∷ map f cs) (x ∷ ls) n) (same c) (wrote_line (ap call_of (line c) ∙ q) (cards-other In On g r))
  cards-other In On g (wrote_call {c} {cs} {w} {inner = ys} {ks = js} {ls = ls} {k = j} {n = n} q p i r) =
      wrote_call (ap call_of (line c) ∙ q) (looks w ys p) (g ys js j i) (cards-other In On g r)

  calls-other : (depth : ℕ) (cs : List Shown) (ls : List (List ℕ)) (n : ℕ) → Calls ds depth cs ls n → Calls es depth (map f cs) ls n
  calls-other zero cs ls n i = i
  calls-other (suc depth) cs ls n i = (i.0, i.1, cards-other (Calls ds depth) (Calls es depth) (calls-other depth) i.2)

  pub writes-other : (up : DeckView → DeckView) → ((d : DeckView) → (up d).lines ≡ map f d.lines) → {chosen : List DeckView} {ls : List (List ℕ)} {n : ℕ} → WritesDecks ds chosen ls n
      → WritesDecks es (map up chosen) ls n
  writes-other up e wrote_no_deck = wrote_no_deck
  writes-other up e (wrote_deck {d} {rest} {ks = js} {ls = ls} {k = j} {n = n} w r) =
      wrote_deck (subst (λ (cs : List Shown). Writes es (Calls es 8) cs js j) (sym (e d)) (cards-other (Calls ds 8) (Calls es 8) (calls-other 8) w)) (writes-other up e r)
