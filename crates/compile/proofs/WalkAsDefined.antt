-- The walk as it is carried out has the counts, the refusal and the file of the walk as it is defined. Assumes nothing.
--   a line                 printed-as
--   the space              into, Fits, write-follows
--   the walk               Follows, cards-follows, called-follows, decks-follows
--   the two passes         table-halted, table_done, table-halted-again
use Rattle.std.specs.Prelude.{if◌then◌else◌, Result, Ok, Err}
use Prim.Native.Nat.{ℕ, zero, suc, ◌+◌, ◌*◌, ◌/◌, ◌≤◌, ◌<◌}
use native.Mathlib.Omega.{arith}
use mathlib.Core.Path.{◌≡◌, refl, sym, ap, ◌∙◌, subst}
use mathlib.Core.Bool.{Bool, true, false}
use mathlib.Core.List.{List, [], ◌∷◌, ◌++◌, append_assoc, append-nil}
use borrow.Author.Tests.{ltb-true}
use lib.Dec.{eqb, ltb}
use lib.ListN.{length, take, drop, length-append, length-drop}
use lib.Seq.{take_at, drop-drop, drop-append-add}
use Rattle.words_lines.specs.Directive.{call_of}
use Rattle.words_lines.specs.declared.Call.{Call}
use Rattle.words_lines.specs.declared.Call.TheVariants.{Not, Of, Malformed}
use Rattle.library.specs.Each.{Each}
use Rattle.library.specs.Library.{reserved}
use Rattle.compile_walk.specs.View.{Shown, DeckView, full_choice}
use Rattle.compile_walk.specs.Walk.{printed, Found, missing, not_common, common, found_in, look_in, called_deck, Walk, walked, halted, halt_at, then_on, Inner, open_deck, at_card, walk_cards, called, walk_decks}
use Rattle.compile.specs.Compile.{of_walk, file_of}
use Rattle.compile_walk.specs.Lines.{line_for}
use Rattle.compile_walk.specs.declared.Stop.{Stop}
use Rattle.compile_walk.specs.declared.Stop.TheVariants.{NoDeck, NotCommon, Deep, Many, Space}
use Rattle.compile.specs.declared.CompileRefused.{CompileRefused}
use Rattle.compile.specs.declared.CompileRefused.TheVariants.{Card as OfCard}
use Rattle.compile_walk.specs.declared.Counts.{Counts}
use Rattle.compile_walk.specs.declared.Halt.{Halt}
use Rattle.compile_walk.specs.Steps.{WalkState, walk_state, on_with, halted_at, write_of, put_of, Callee, open_of, step_of, run_of, callee_at, run_at, decks_of, walk_on}
use Rattle.compile.specs.Answer.{Printable, CompileAnswers}
use Rattle.compile_walk.proofs.LineColumns.{line-long}

-- A LINE: of an owner with a name it is the one that is printed
printed-as : (c : Shown) → Printable c → line_for c.line c.name c.seq ≡ printed c
unfolding line_for printed
printed-as c e = rw e.0

printed-long : (c : Shown) → Printable c → length (printed c) ≡ 91
printed-long c e = ap length (sym (printed-as c e)) ∙ line-long c.line c.name c.seq e.1

-- THE SPACE with the lines so far
abbrev pub into : Bool → List (List ℕ) → List ℕ → List ℕ
into true ls space = file_of ls ++ drop (length (file_of ls)) space
into false ls space = space

pub record Fits (room : ℕ) (ls : List (List ℕ)) : Type 0 where
  pub long : length (file_of ls) ≡ length ls * 91
  pub few : length ls ≤ room

file-append : (ls : List (List ℕ)) (p : List ℕ) → file_of (ls ++ (p ∷ [])) ≡ file_of ls ++ p
file-append [] p = append-nil p
file-append (l ∷ ls) p = ap (λ (r : List ℕ). l ++ r) (file-append ls p) ∙ sym (append_assoc l (file_of ls) p)

module _ (space : List ℕ) where
  abbrev pub room : ℕ
  room = length space / 91

  into-long : (w : Bool) (ls : List (List ℕ)) → Fits room ls → length (into w ls space) ≡ length space
  into-long true ls f = length-append (file_of ls) (drop (length (file_of ls)) space) ∙ omega (arith, length-drop (length (file_of ls)) space, f.long, f.few)
  into-long false ls f = refl

  into-false : (w : Bool) (ls : List (List ℕ)) → w ≡ false → into w ls space ≡ space
  into-false w ls e = ap (λ (b : Bool). into b ls space) e

  module _ (c : Shown) (named : Printable c) (ls : List (List ℕ)) (f : Fits room ls) where
    abbrev more : List (List ℕ)
    more = ls ++ (printed c ∷ [])

    more-long : length (file_of more) ≡ length (file_of ls) + 91
    more-long = ap length (file-append ls (printed c)) ∙ length-append (file_of ls) (printed c) ∙ ap (λ (n : ℕ). length (file_of ls) + n) (printed-long c named)

    more-count : length ls + 1 ≡ length more
    more-count = sym (length-append ls (printed c ∷ []))

    more-fits : length ls < room → Fits room more
    more-fits h = record { long = omega (arith, more-long, f.long, more-count); few = omega (arith, more-count) }

    write-follows : (w : Bool) → write_of w (length ls * 91) c (into w ls space) ≡ into w more space
    write-follows false = refl
    write-follows true =
        let front : take (length ls * 91) (into true ls space) ≡ file_of ls = take_at (file_of ls) (drop (length (file_of ls)) space) (length ls * 91) f.long in
        let at : length ls * 91 + 91 ≡ length (file_of ls) + 91 = omega (arith, f.long) in
        let back : drop (length ls * 91 + 91) (into true ls space) ≡ drop (length (file_of more)) space =
        ap (λ (n : ℕ). drop n (into true ls space)) at ∙ drop-append-add (file_of ls) (drop (length (file_of ls)) space) 91
        ∙ drop-drop 91 (length (file_of ls)) space ∙ ap (λ (n : ℕ). drop n space) (sym more-long) in
        (λ i. front i ++ (printed-as c named i ++ back i)) ∙ sym (append_assoc (file_of ls) (printed c) (drop (length (file_of more)) space))
        ∙ ap (λ (r : List ℕ). r ++ drop (length (file_of more)) space) (sym (file-append ls (printed c)))

  -- THE WALK
  abbrev pub Follows : Bool → Walk → WalkState → Type 0
  Follows w (walked ls n) s = Fits room ls × (s ≡ on_with (length ls) n (into w ls space))
  Follows w (halted k o q) s = (s.answer ≡ Err (record { stop = k; owner = o; seq = q })) × (w ≡ false → s.out ≡ space)

  bind : (w : Bool) (x : Walk) (s : WalkState) (f : List (List ℕ) → ℕ → Walk) (g : ℕ → ℕ → List ℕ → WalkState) → Follows w x s
      → ((ls : List (List ℕ)) (n : ℕ) → Fits room ls → Follows w (f ls n) (g (length ls) n (into w ls space))) → Follows w (then_on x f) (walk_on s g)
  bind w (walked ls n) s f g h on = subst (λ (q : WalkState). Follows w (f ls n) (walk_on q g)) (sym h.1) (on ls n h.0)
  bind w (halted k o q) s f g h on =
      let stays : walk_on s g ≡ s = λ i. elim (h.0 i) [ Ok n ↦ g n.lines n.calls s.out | Err k ↦ s ] in
      subst (λ (r : WalkState). Follows w (halted k o q) r) (sym stays) h

  module _ (w : Bool) (ds : List DeckView) (plain : Each (λ d. Each Printable d.lines) ds) where
    stopped : (k : Stop) (c : Shown) (ls : List (List ℕ)) → Follows w (halt_at k c) (halted_at k c (into w ls space))
    stopped k c ls = (refl, into-false w ls)

    -- a called deck's cards have named owners too
    abbrev PlainFound : Found → Type 0
    PlainFound missing = Unit {0}
    PlainFound not_common = Unit {0}
    PlainFound (common cs) = Each Printable cs

    plain-found : (x : ℕ) → PlainFound (called_deck x ds)
    unfolding called_deck
    plain-found x = go (eqb x reserved)
      where
        one : (d : DeckView) → Each Printable d.lines → PlainFound (found_in d)
        one d h = by d.common
          where
            by : (b : Bool) → PlainFound (if b then common d.lines else not_common)
            by true = h
            by false = tt

        look : (es : List DeckView) → Each (λ d. Each Printable d.lines) es → PlainFound (look_in x es)
        look [] h = tt
        look (d ∷ es) h = by (eqb x d.name) (one d h.0) (look es h.1)
          where
            by : (b : Bool) → PlainFound (found_in d) → PlainFound (look_in x es) → PlainFound (if b then found_in d else look_in x es)
            by true p q = p
            by false p q = q

        go : (b : Bool) → PlainFound (if b then not_common else look_in x ds)
        go true = tt
        go false = look ds plain

    abbrev pub Opens : Inner → Callee → Type 0
    Opens inner callee =
        (c : Shown) (cs : List Shown) (ls : List (List ℕ)) (n : ℕ) → Each Printable cs → Fits room ls
        → Follows w (inner c cs ls n) (callee c cs (length ls) n (into w ls space))

    module _ (inner : Inner) (callee : Callee) (opens : Opens inner callee) where
      step_follows : (c : Shown) → Printable c → (k : Call) (ls : List (List ℕ)) (n : ℕ) → Fits room ls
          → Follows w (at_card ds room inner c k ls n) (step_of w ds callee c k (length ls) n (into w ls space))
      unfolding step_of put_of
      step_follows c named Malformed ls n f = stopped NoDeck c ls
      step_follows c named (Of x) ls n f = go (called_deck x ds) (plain-found x)
        where
          go : (p : Found) → PlainFound p → Follows w (open_deck c p (λ cs. inner c cs ls n)) (open_of c p (λ cs. callee c cs (length ls) n (into w ls space)) (into w ls space))
          go missing h = stopped NoDeck c ls
          go not_common h = stopped NotCommon c ls
          go (common cs) h = opens c cs ls n h f
      step_follows c named Not ls n f =
          subst (λ (m : ℕ). Follows w (at_card ds room inner c Not ls n) (if ltb (length ls) (m / 91) then on_with (length ls + 1) n (write_of w (length ls * 91) c (into w ls space)) else halted_at Space c (into w ls space)))
          (sym (into-long w ls f)) (go (ltb (length ls) room) refl)
        where
          go : (b : Bool) → ltb (length ls) room ≡ b
              → Follows w (if b then walked (ls ++ (printed c ∷ [])) n else halt_at Space c)
              (if b then on_with (length ls + 1) n (write_of w (length ls * 91) c (into w ls space)) else halted_at Space c (into w ls space))
          go true e = (
            more-fits c named ls f (ltb-true (length ls) room e),
            λ i. on_with (more-count c named ls f i) n (write-follows c named ls f w i),
          )
          go false e = stopped Space c ls

      pub cards-follows : (cs : List Shown) → Each Printable cs → (ls : List (List ℕ)) (n : ℕ) → Fits room ls
          → Follows w (walk_cards ds room inner cs ls n) (run_of w ds callee cs (length ls) n (into w ls space))
      unfolding run_of
      cards-follows [] h ls n f = (f, refl)
      cards-follows (c ∷ cs) h ls n f =
          bind w (at_card ds room inner c (call_of c.line) ls n) (step_of w ds callee c (call_of c.line) (length ls) n (into w ls space))
          (λ ls' n'. walk_cards ds room inner cs ls' n') (λ l n' o. run_of w ds callee cs l n' o)
          (step_follows c h.0 (call_of c.line) ls n f) (λ ls' n' f'. cards-follows cs h.1 ls' n' f')

    called-follows : (d : ℕ) → Opens (called ds room d) (callee_at w ds d)
    unfolding callee_at
    called-follows zero c cs ls n h f = stopped Deep c ls
    called-follows (suc d) c cs ls n h f = go (ltb n 4096) (cards-follows (called ds room d) (callee_at w ds d) (called-follows d) cs h ls (suc n) f)
      where
        go : (b : Bool) → Follows w (walk_cards ds room (called ds room d) cs ls (suc n)) (run_of w ds (callee_at w ds d) cs (length ls) (suc n) (into w ls space))
            → Follows w (if b then walk_cards ds room (called ds room d) cs ls (suc n) else halt_at Many c)
            (if b then run_of w ds (callee_at w ds d) cs (length ls) (suc n) (into w ls space) else halted_at Many c (into w ls space))
        go true r = r
        go false r = stopped Many c ls

    decks-from : (es : List DeckView) → Each (λ d. Each Printable d.lines) es → (ls : List (List ℕ)) (n : ℕ) → Fits room ls
        → Follows w (walk_decks ds room (full_choice es) ls n) (decks_of w ds es (length ls) n (into w ls space))
    unfolding decks_of
    decks-from [] h ls n f = (f, refl)
    decks-from (d ∷ es) h ls n f =
        go d.common (decks-from es h.1 ls n f)
        (bind w (walk_cards ds room (called ds room 8) d.lines ls n) (run_at w ds 8 d.lines (length ls) n (into w ls space))
        (λ ls' n'. walk_decks ds room (full_choice es) ls' n') (λ l n' o. decks_of w ds es l n' o)
        (cards-follows (called ds room 8) (callee_at w ds 8) (called-follows 8) d.lines h.0 ls n f)
        (λ ls' n' f'. decks-from es h.1 ls' n' f'))
      where
        go : (b : Bool) → Follows w (walk_decks ds room (full_choice es) ls n) (decks_of w ds es (length ls) n (into w ls space))
            → Follows w (then_on (walk_cards ds room (called ds room 8) d.lines ls n) (λ ls' n'. walk_decks ds room (full_choice es) ls' n'))
            (walk_on (run_at w ds 8 d.lines (length ls) n (into w ls space)) (λ l n' o. decks_of w ds es l n' o))
            → Follows w (walk_decks ds room (if b then full_choice es else (d ∷ full_choice es)) ls n)
            (walk_on (if b then on_with (length ls) n (into w ls space) else run_at w ds 8 d.lines (length ls) n (into w ls space)) (λ l n' o. decks_of w ds es l n' o))
        go true p q = p
        go false p q = q

    pub decks-follows : (es : List DeckView) → Each (λ d. Each Printable d.lines) es → Follows w (walk_decks ds room (full_choice es) [] 0) (decks_of w ds es 0 0 space)
    decks-follows es named = subst (λ (o : List ℕ). Follows w (walk_decks ds room (full_choice es) [] 0) (decks_of w ds es 0 0 o)) (start w) (decks-from es named [] 0 (record { long = refl; few = omega arith }))
      where
        start : (b : Bool) → into b [] space ≡ space
        start true = refl
        start false = refl

-- THE TWO PASSES: o is the space after the first, p after the second
abbrev answered : Result Counts Halt → Result Counts CompileRefused
answered (Ok n) = Ok n
answered (Err h) = Err (OfCard h)

module _ (space : List ℕ) (x : Walk) (r : Result Counts Halt) (o : List ℕ) (f : Follows space false x (walk_state r o)) where
  pub first-halted : (h : Halt) → r ≡ Err h → CompileAnswers (of_walk x) (Err (OfCard h)) space o
  first-halted h e = go x f
    where
      go : (y : Walk) → Follows space false y (walk_state r o) → CompileAnswers (of_walk y) (Err (OfCard h)) space o
      go (walked ls n) g = absurd (let q : r ≡ Ok (record { lines = length ls; calls = n }) = ap (λ (s : WalkState). s.answer) g.1 in let z : ◌≡◌ {A = ℕ} 0 1 = cc in omega arith)
      go (halted j c d) g = (ap answered (sym e ∙ g.0), g.1 refl)

  pub first-kept : o ≡ space
  first-kept = go x f
    where
      go : (y : Walk) → Follows space false y (walk_state r o) → o ≡ space
      go (walked ls n) h = ap (λ (s : WalkState). s.out) h.1
      go (halted j c d) h = h.1 refl

  module _ (k : Counts) (e : r ≡ Ok k) (t : Result Counts Halt) (p : List ℕ) (g : Follows space true x (walk_state t p)) where
    pub second-done : (m : Counts) → t ≡ Ok m → CompileAnswers (of_walk x) (Ok m) space p
    second-done m q = go x g
      where
        go : (y : Walk) → Follows space true y (walk_state t p) → CompileAnswers (of_walk y) (Ok m) space p
        go (walked ls n) h = (ap answered (sym q ∙ ap (λ (s : WalkState). s.answer) h.1), ap (λ (s : WalkState). s.out) h.1)
        go (halted j c d) h = absurd (let a : t ≡ Err (record { stop = j; owner = c; seq = d }) = h.0 in let z : ◌≡◌ {A = ℕ} 0 1 = cc in omega arith)

    pub second-halted : (h : Halt) → t ≡ Err h → CompileAnswers (of_walk x) (Err (OfCard h)) space p
    second-halted h q = absurd (go x f g)
      where
        go : (y : Walk) → Follows space false y (walk_state r o) → Follows space true y (walk_state t p) → ⊥
        go (walked ls m) u v = let c : t ≡ Ok (record { lines = length ls; calls = m }) = ap (λ (s : WalkState). s.answer) v.1 in let z : ◌≡◌ {A = ℕ} 0 1 = cc in omega arith
        go (halted j c d) u v = let w : r ≡ Err (record { stop = j; owner = c; seq = d }) = u.0 in let z : ◌≡◌ {A = ℕ} 0 1 = cc in omega arith

-- of a view, and the decks chosen of it
module _ (space : List ℕ) (ds : List DeckView) (plain : Each (λ d. Each Printable d.lines) ds) (es : List DeckView) (named : Each (λ d. Each Printable d.lines) es)
    (r : Result Counts Halt) (o : List ℕ) (e : walk_state r o ≡ decks_of false ds es 0 0 space) where
  abbrev walk : Walk
  walk = walk_decks ds (length space / 91) (full_choice es) [] 0

  first : Follows space false walk (walk_state r o)
  first = subst (λ (s : WalkState). Follows space false walk s) (sym e) (decks-follows space false ds plain es named)

  pub table-halted : (h : Halt) → r ≡ Err h → CompileAnswers (of_walk walk) (Err (OfCard h)) space o
  table-halted h q = first-halted space walk r o first h q

  module _ (k : Counts) (on : r ≡ Ok k) (t : Result Counts Halt) (p : List ℕ) (again : walk_state t p ≡ decks_of true ds es 0 0 o) where
    second : Follows space true walk (walk_state t p)
    second = subst (λ (s : WalkState). Follows space true walk s) (sym (again ∙ ap (decks_of true ds es 0 0) (first-kept space walk r o first))) (decks-follows space true ds plain es named)

    pub table_done : (m : Counts) → t ≡ Ok m → CompileAnswers (of_walk walk) (Ok m) space p
    table_done m q = second-done space walk r o first k on t p second m q

    pub table-halted-again : (h : Halt) → t ≡ Err h → CompileAnswers (of_walk walk) (Err (OfCard h)) space p
    table-halted-again h q = second-halted space walk r o first k on t p second h q
