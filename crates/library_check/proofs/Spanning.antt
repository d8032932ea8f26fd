-- Cards in a row from a place up to another: the first of them below the end, and none at the end. Assumes nothing.
--   First, span-first, span_none, span-rises    the cards of a span
--   walks-span                                  cards to the end of the words are a span
--   Still, still-start, still-on, still-here, still-end    a loop over cards: what is computed of all is computed of those left
use Prim.Native.Nat.{ℕ, ◌+◌, ◌/◌, ◌%◌, ◌^◌, ◌≤◌, ◌<◌}
use native.Mathlib.Omega.{arith}
use mathlib.Core.Path.{◌≡◌, refl, sym, ap, ◌∙◌, subst}
use mathlib.Core.List.{List, [], ◌∷◌}
use lib.ListN.{length, get_or}
use Rattle.library.specs.Check.{Stored}
use Rattle.library_check.specs.Walks.{Walk, Walks, Spans}

pub record First (d ws : List ℕ) (at end : ℕ) (ss : List Stored) : Type 0 where
  pub card : Stored
  pub rest : List Stored
  pub is : ss ≡ card ∷ rest
  pub walk : Walk d ws at card
  pub on : Spans d ws walk.next end rest

module _ (d ws : List ℕ) where
  pub walk-rises : (at : ℕ) (s : Stored) (w : Walk d ws at s) → at < w.next
  walk-rises at s w =
      let p : 0 < w.heads = w.some-heads in
      let q : w.next ≡ at + w.heads + get_or ws at 0 / 2 ^ 36 % 2 ^ 18 = w.count in
      omega arith

  pub span-rises : (at end : ℕ) (ss : List Stored) → Spans d ws at end ss → at ≤ end
  span-rises at end [] h = let e : at ≡ end = h in omega arith
  span-rises at end (s ∷ ss) h =
      let p : at < h.0.next = walk-rises at s h.0 in
      let q : h.0.next ≤ end = span-rises h.0.next end ss h.1 in
      omega arith

  pub span-first : (at end : ℕ) (ss : List Stored) → at < end → Spans d ws at end ss → First d ws at end ss
  span-first at end [] lt h = absurd (let e : at ≡ end = h in omega arith)
  span-first at end (s ∷ ss) lt h = record { card = s; rest = ss; is = refl; walk = h.0; on = h.1 }

  pub span_none : (at end : ℕ) (ss : List Stored) → end ≤ at → Spans d ws at end ss → ss ≡ []
  span_none at end [] le h = refl
  span_none at end (s ∷ ss) le h =
      let p : at < h.0.next = walk-rises at s h.0 in
      let q : h.0.next ≤ end = span-rises h.0.next end ss h.1 in
      absurd (omega arith)

  pub walks-span : (at : ℕ) (ss : List Stored) → at ≤ length ws → Walks d ws at ss → Spans d ws at (length ws) ss
  walks-span at [] le h = let g : length ws ≤ at = h in omega arith
  walks-span at (s ∷ ss) le h = (h.0, walks-span h.0.next ss h.0.within h.1)

-- those left at a place, and what holds of them
pub record Going (d ws : List ℕ) (at end : ℕ) (P : List Stored → Type 0) : Type 0 where
  pub left : List Stored
  pub spans : Spans d ws at end left
  pub holds : P left

abbrev pub Still : {A : Type 0} → List ℕ → List ℕ → ℕ → ℕ → ℕ → (List Stored → A) → (List Stored → A) → Type 0
Still d ws from end at all now = (ss : List Stored) → Spans d ws from end ss → Going d ws at end (λ t. all ss ≡ now t)

module _ {A : Type 0} (d ws : List ℕ) (from end : ℕ) (all : List Stored → A) where
  pub still-start : Still d ws from end from all all
  still-start ss h = record { left = ss; spans = h; holds = refl }

  module _ (at : ℕ) (now : List Stored → A) (inv : Still d ws from end at all now) where
    pub still-on : at < end → (n : ℕ) (after : List Stored → A) → ((s : Stored) (w : Walk d ws at s) → (n ≡ w.next) × ((t : List Stored) → now (s ∷ t) ≡ after t))
        → Still d ws from end n all after
    still-on lt n after step ss h =
        let g = inv ss h in
        let f = span-first d ws at end g.left lt g.spans in
        let q = step f.card f.walk in
        record {
          left = f.rest;
          spans = subst (λ (k : ℕ). Spans d ws k end f.rest) (sym q.0) f.on;
          holds = g.holds ∙ ap now f.is ∙ q.1 f.rest;
        }

    pub still-here : at < end → (a : A) → ((s : Stored) (w : Walk d ws at s) (t : List Stored) → now (s ∷ t) ≡ a) → (ss : List Stored) → Spans d ws from end ss → all ss ≡ a
    still-here lt a step ss h =
        let g = inv ss h in
        let f = span-first d ws at end g.left lt g.spans in
        g.holds ∙ ap now f.is ∙ step f.card f.walk f.rest

    pub still-end : end ≤ at → (ss : List Stored) → Spans d ws from end ss → all ss ≡ now []
    still-end le ss h =
        let g = inv ss h in
        g.holds ∙ ap now (span_none d ws at end g.left le g.spans)
