-- The directory of a script that was read is in order, and amending keeps each other statement's bytes.
use Rattle.std.specs.Prelude.{if◌then◌else◌}
use mathlib.Core.Path.{◌≡◌, refl, sym, ap, ◌∙◌, subst}
use mathlib.Core.Bool.{Bool, true, false, ◌||◌}
use mathlib.Core.List.{List, [], ◌∷◌, ◌++◌, append_assoc, map}
use Prim.Native.Nat.{ℕ, zero, suc, ◌+◌, ◌-◌, ◌≤◌, ◌<◌}
use native.Mathlib.Omega.{arith}
use lib.Dec.{T, ltb}
use lib.Seq.{slice, take_at, drop-append-le, take-append-le, take-take, take-append-add, drop-append-add, take-add, length-take-le}
use lib.ListN.{length, take, drop, length-append, length-drop, length-map, take-append-drop}
use borrow.Author.Tests.{le-ltb}
use Rattle.tokens.specs.Limits.{most_bytes, most_tokens}
use Rattle.tokens.specs.Text.{every, leading, script, other}
use Rattle.tokens.specs.Names.{Lists}
use Rattle.grammar.specs.Grammar.{Edition, Language}
use Rattle.grammar.specs.Script.{Entry, Outcome, accepted, refused, nodes, language, read_script, reading_in, fitting as fits, moved_entry, tokens_of, no_zero}
use Rattle.grammar.proofs.AmendBytes.{Text, Cut, cut_at, Accepted, read_accepted, append_every, script_no_zero, read_script_lem}
use Rattle.amending.specs.Amend.{ends_well, replaced, between, amended_list}
use Rattle.amending.specs.Amending.{State, Rooms, Good, over}
use Rattle.amending.specs.Kept.{texts_of}
use Rattle.amending.proofs.AmendLaw.{replaced_no_zero, amend_law}
use Rattle.amending.proofs.AmendingLaws.{Within, within}

-- ---- 20

-- from the byte i on, none empty, none over another, none past the byte j, and each has a token
abbrev pub InOrder : ℕ → ℕ → List Entry → Type 0
InOrder i j [] = i ≤ j
InOrder i j (e ∷ es) = (i ≤ e.start) × (e.start < e.end) × (1 ≤ e.tokens) × InOrder e.end j es

order_moved : (c i j : ℕ) (es : List Entry) → InOrder i j es → InOrder (i + c) (j + c) (map (moved_entry c) es)
order_moved c i j [] h = omega arith
order_moved c i j (e ∷ es) h = (omega (arith, h.0), omega (arith, h.1), h.2, order_moved c e.end j es h.3)

order_start : (i i' j : ℕ) (es : List Entry) → i' ≤ i → InOrder i j es → InOrder i' j es
order_start i i' j [] l h = omega arith
order_start i i' j (e ∷ es) l h = (omega (arith, h.0), h.1, h.2, h.3)

order_by : (W : Language) (k : ℕ) (s : List ℕ) (es : List Entry) → length es ≤ k → Text W s es → InOrder 0 (length s) es
order_by W zero s [] l X = omega arith
order_by W zero s (e ∷ es) l X = absurd (omega arith)
order_by W (suc k) s [] l X = omega arith
order_by W (suc k) s (e ∷ es) l X =
    let C : Cut W s [] e es = cut_at W [] e es X in
    let m : length C.others ≤ k = omega (arith, length-map C.others (moved_entry e.end), ap length C.same) in
    let O : InOrder (0 + e.end) (length (drop e.end s) + e.end) (map (moved_entry e.end) C.others)
    = order_moved e.end 0 (length (drop e.end s)) C.others (order_by W k (drop e.end s) C.others m C.aft) in
    let p : length (drop e.end s) + e.end ≡ length s = omega (arith, length-drop e.end s, C.inside) in
    let q : InOrder e.end (length s) es
    = order_start (0 + e.end) e.end (length s) es (omega arith) (subst (λ (x : List Entry). InOrder (0 + e.end) (length s) x) C.same
    (subst (λ (j : ℕ). InOrder (0 + e.end) j (map (moved_entry e.end) C.others)) p O)) in
    (omega arith, C.order, C.some, q)

-- the statements of a script, in order
pub text_order : (W : Language) (s : List ℕ) (es : List Entry) → Text W s es → InOrder 0 (length s) es
text_order W s es X = order_by W (length es) s es (omega arith) X

pub read_order : (E : Edition) (l : Lists) (s : List ℕ) (es : List Entry) → T (no_zero s) → read_script E l s ≡ accepted es → InOrder 0 (length s) es
read_order E l s es z h = text_order (language E l) s es (read_accepted E l s es z h).text

-- so after any number of amendments: `amends_good`, then this
pub good_order : (E : Edition) (l : Lists) (R : Rooms) (st : State) → Good E l R st → InOrder 0 (length st.script) st.entries
good_order E l R st G = read_order E l st.script st.entries G.clear G.read

-- ---- the bytes of the statements

order_le : (i j : ℕ) (es : List Entry) → InOrder i j es → i ≤ j
order_le i j [] h = h
order_le i j (e ∷ es) h = omega (arith, h.0, h.1, order_le e.end j es h.3)

order_before : (i j : ℕ) (es : List Entry) (e : Entry) (es' : List Entry) → InOrder i j (es ++ (e ∷ es')) → InOrder i e.start es
order_before i j [] e es' h = h.0
order_before i j (x ∷ es) e es' h = (h.0, h.1, h.2, order_before x.end j es e es' h.3)

order_behind : (i j : ℕ) (es : List Entry) (e : Entry) (es' : List Entry) → InOrder i j (es ++ (e ∷ es')) → InOrder e.end j es'
order_behind i j [] e es' h = h.3
order_behind i j (x ∷ es) e es' h = order_behind x.end j es e es' h.3

pub texts_append : (s : List ℕ) (x y : List Entry) → texts_of s (x ++ y) ≡ texts_of s x ++ texts_of s y
texts_append s [] y = refl
texts_append s (e ∷ x) y = ap {B = List (List ℕ)} (λ l. slice e.start e.end s ∷ l) (texts_append s x y)

-- in front of the byte a
slice_before : (f t a : ℕ) (s q : List ℕ) → t ≤ a → a ≤ length s → slice f t (take a s ++ q) ≡ slice f t s
slice_before f t a s q h k =
    ap (drop f) (take-append-le t (take a s) q (omega (arith, length-take-le a s k)) ∙ take-take t a s h)

texts_before : (i a : ℕ) (s q : List ℕ) (es : List Entry) → a ≤ length s → InOrder i a es → texts_of (take a s ++ q) es ≡ texts_of s es
texts_before i a s q [] k h = refl
texts_before i a s q (e ∷ es) k h =
    λ j. slice_before e.start e.end a s q (order_le e.end a es h.3) k j ∷ texts_before e.end a s q es k h.3 j

-- behind the text p
slice_behind : (f t : ℕ) (p z : List ℕ) → slice (length p + f) (length p + t) (p ++ z) ≡ slice f t z
slice_behind f t p z = ap (drop (length p + f)) (take-append-add p z t) ∙ drop-append-add p (take t z) f

slice_part : (f t : ℕ) (n z : List ℕ) → t ≤ length n → slice f t (n ++ z) ≡ slice f t n
slice_part f t n z h = ap (drop f) (take-append-le t n z h)

texts_middle : (i a : ℕ) (p n z : List ℕ) (es : List Entry) → length p ≡ a → InOrder i (length n) es → texts_of (p ++ (n ++ z)) (map (moved_entry a) es) ≡ texts_of n es
texts_middle i a p n z [] k h = refl
texts_middle i a p n z (e ∷ es) k h =
    let x : e.start + a ≡ length p + e.start = omega arith in
    let y : e.end + a ≡ length p + e.end = omega arith in
    let q : slice (e.start + a) (e.end + a) (p ++ (n ++ z)) ≡ slice e.start e.end n
    = (λ j. slice (x j) (y j) (p ++ (n ++ z))) ∙ slice_behind e.start e.end p (n ++ z) ∙ slice_part e.start e.end n z (order_le e.end (length n) es h.3) in
    λ j. q j ∷ texts_middle e.end a p n z es k h.3 j

slice_rest : (f t b : ℕ) (s : List ℕ) → b ≤ length s → slice f t (drop b s) ≡ slice (b + f) (b + t) s
slice_rest f t b s h =
    let k : length (take b s) ≡ b = length-take-le b s h in
    sym (ap (drop (b + f)) (take-add b t s) ∙ ap (λ (i : ℕ). drop (i + f) (take b s ++ take t (drop b s))) (sym k) ∙ drop-append-add (take b s) (take t (drop b s)) f)

texts_behind : (i j a n b : ℕ) (p s : List ℕ) (es : List Entry) → length p ≡ a + n → a ≤ b → b ≤ length s → b ≤ i → InOrder i j es
    → texts_of (p ++ drop b s) (map (between n (b - a)) es) ≡ texts_of s es
texts_behind i j a n b p s [] k l m o h = refl
texts_behind i j a n b p s (e ∷ es) k l m o h =
    let x : e.start + n - (b - a) ≡ length p + (e.start - b) = omega (arith, h.0) in
    let y : e.end + n - (b - a) ≡ length p + (e.end - b) = omega (arith, h.0, h.1) in
    let x' : b + (e.start - b) ≡ e.start = omega (arith, h.0) in
    let y' : b + (e.end - b) ≡ e.end = omega (arith, h.0, h.1) in
    let q : slice (e.start + n - (b - a)) (e.end + n - (b - a)) (p ++ drop b s) ≡ slice e.start e.end s
    = (λ c. slice (x c) (y c) (p ++ drop b s)) ∙ slice_behind (e.start - b) (e.end - b) p (drop b s) ∙ slice_rest (e.start - b) (e.end - b) b s m ∙ (λ c. slice (x' c) (y' c) s) in
    λ c. q c ∷ texts_behind e.end j a n b p s es k l m (omega (arith, h.0, h.1)) h.3 c

-- the statements that are kept have the same bytes, and the new ones have those of the new text
pub texts_amended : (W : Language) (s n : List ℕ) (es : List Entry) (e : Entry) (es' ns : List Entry) → Text W s (es ++ (e ∷ es')) → Text W n ns
    → texts_of (replaced s e n) (amended_list es e es' (length n) ns) ≡ texts_of s es ++ (texts_of n ns ++ texts_of s es')
texts_amended W s n es e es' ns X Y =
    let C : Cut W s es e es' = cut_at W es e es' X in
    let O : InOrder 0 (length s) (es ++ (e ∷ es')) = text_order W s (es ++ (e ∷ es')) X in
    let a : length (take e.start s) ≡ e.start = length-take-le e.start s (omega (arith, C.order, C.inside)) in
    let g : replaced s e n ≡ take e.start s ++ (n ++ drop e.end s) = append_assoc (take e.start s) n (drop e.end s) in
    let b : texts_of (replaced s e n) es ≡ texts_of s es
    = ap (λ (l : List ℕ). texts_of l es) g ∙ texts_before 0 e.start s (n ++ drop e.end s) es (omega (arith, C.order, C.inside)) (order_before 0 (length s) es e es' O) in
    let c : texts_of (replaced s e n) (map (moved_entry e.start) ns) ≡ texts_of n ns
    = ap (λ (l : List ℕ). texts_of l (map (moved_entry e.start) ns)) g ∙ texts_middle 0 e.start (take e.start s) n (drop e.end s) ns a (text_order W n ns Y) in
    let d : texts_of (replaced s e n) (map (between (length n) (e.end - e.start)) es') ≡ texts_of s es'
    = texts_behind e.end (length s) e.start (length n) e.end (take e.start s ++ n) s es' (omega (arith, length-append (take e.start s) n)) (omega (arith, C.order)) C.inside (omega arith)
    (order_behind 0 (length s) es e es' O) in
    texts_append (replaced s e n) es (map (moved_entry e.start) ns ++ map (between (length n) (e.end - e.start)) es')
    ∙ ap (λ (x : List (List ℕ)). texts_of (replaced s e n) es ++ x) (texts_append (replaced s e n) (map (moved_entry e.start) ns) (map (between (length n) (e.end - e.start)) es'))
    ∙ (λ i. b i ++ (c i ++ d i))

-- ---- the state that a reading leaves

-- a script that was read, and for whose statements there is room
pub read_good : (E : Edition) (l : Lists) (R : Rooms) (bs : List ℕ) (es : List Entry) → read_script E l bs ≡ accepted es → over R (script bs) es ≡ false
    → Good E l R (record { script = script bs; entries = es })
read_good E l R bs es h o = record { clear = script_no_zero bs; read = read_script_lem E l bs ∙ h; room = o }

-- a good state's script is accepted by `reading_in`, room for records and statements included
pub good_reading : (E : Edition) (l : Lists) (R : Rooms) (st : State) → Good E l R st → reading_in E l R.records R.statements st.script ≡ accepted st.entries
unfolding reading_in
good_reading E l R st G =
    let w : Within R st.script st.entries = within R st.script st.entries G.room in
    ap (fits (length (script st.script)) R.records R.statements) G.read
    ∙ ap (λ (t : Bool). if t then refused 16 (length (script st.script)) else if ltb R.statements (length st.entries) then refused 16 (length (script st.script)) else accepted st.entries)
    (le-ltb R.records (nodes st.entries) w.records)
    ∙ ap (λ (t : Bool). if t then refused 16 (length (script st.script)) else accepted st.entries) (le-ltb R.statements (length st.entries) w.statements)

-- and a script that `reading_in` accepts is a good state's, if there is room for its bytes and tokens
pub reading_good : (E : Edition) (l : Lists) (R : Rooms) (bs : List ℕ) (es : List Entry) → reading_in E l R.records R.statements bs ≡ accepted es → length (script bs) ≤ R.bytes → tokens_of es ≤ R.tokens
    → Good E l R (record { script = script bs; entries = es })
unfolding reading_in over
reading_good E l R bs es h b t = go (read_script E l bs) refl h
  where
    k : ℕ
    k = length (script bs)

    three : (xs : List Entry) (c d : Bool) → (if c then refused 16 k else if d then refused 16 k else accepted xs) ≡ accepted es → (xs ≡ es) × (c || d ≡ false)
    three xs true d q = absurd (let z : ◌≡◌ {A = ℕ} 0 1 = cc in omega arith)
    three xs false true q = absurd (let z : ◌≡◌ {A = ℕ} 0 1 = cc in omega arith)
    three xs false false q = (cc, refl)

    go : (o : Outcome) → read_script E l bs ≡ o → fits k R.records R.statements o ≡ accepted es → Good E l R (record { script = script bs; entries = es })
    go (refused f p) e q = absurd (let z : ◌≡◌ {A = ℕ} 0 1 = cc in omega arith)
    go (accepted xs) e q =
        let T = three xs (ltb R.records (nodes xs)) (ltb R.statements (length xs)) q in
        read_good E l R bs es (e ∙ ap accepted T.0)
        (λ i. le-ltb R.bytes (length (script bs)) b i || (le-ltb R.tokens (tokens_of es) t i || (ap (λ (x : List Entry). ltb R.records (nodes x) || ltb R.statements (length x)) (sym T.0) ∙ T.1) i))

-- ---- where bytes stand behind the script: the first zero byte and what follows it

leading_drop : (f : ℕ → Bool) (s : List ℕ) → leading f (drop (leading f s) s) ≡ 0
unfolding leading
leading_drop f [] = refl
leading_drop f (b ∷ s) = go (f b) refl (leading_drop f s)
  where
    go : (t : Bool) → f b ≡ t → leading f (drop (leading f s) s) ≡ 0 → leading f (drop (elim t as (λ _. ℕ) [ true ↦ suc (leading f s) | false ↦ 0 ]) (b ∷ s)) ≡ 0
    go true e h = h
    go false e h = ap (λ (t : Bool). elim t as (λ _. ℕ) [ true ↦ suc (leading f s) | false ↦ 0 ]) e

leading_past : (f : ℕ → Bool) (y z : List ℕ) → T (every f y) → leading f (y ++ z) ≡ length y + leading f z
unfolding leading every
leading_past f [] z h = omega arith
leading_past f (b ∷ y) z h = go (f b) h (leading_past f y z)
  where
    go : (t : Bool) → T (elim t as (λ _. Bool) [ true ↦ every f y | false ↦ false ]) → (T (every f y) → leading f (y ++ z) ≡ length y + leading f z)
        → ◌≡◌ {A = ℕ} (elim t [ true ↦ suc (leading f (y ++ z)) | false ↦ 0 ]) (suc (length y) + leading f z)
    go true g ih = omega (arith, ih g)
    go false g ih = absurd g

-- a text without zero bytes, and behind it what stands behind another script
script_behind : (y s : List ℕ) → T (no_zero y) → script (y ++ drop (leading (other 0) s) s) ≡ y
unfolding script
script_behind y s h =
    let f : ℕ → Bool = other 0 in
    let n : length y ≡ leading f (y ++ drop (leading f s) s) = omega (arith, leading_past f y (drop (leading f s) s) h, leading_drop f s) in
    take_at y (drop (leading f s) s) (leading f (y ++ drop (leading f s) s)) n

script_replaced : (s : List ℕ) (e : Entry) (n : List ℕ) → e.start ≤ length (script s) → e.end ≤ length (script s) → T (no_zero n) → script (replaced s e n) ≡ replaced (script s) e n
unfolding script
script_replaced s e n h k z =
    let f : ℕ → Bool = other 0 in
    let s₀ : List ℕ = take (leading f s) s in
    let r : List ℕ = drop (leading f s) s in
    let w : s ≡ s₀ ++ r = sym (take-append-drop (leading f s) s) in
    let a : take e.start s ≡ take e.start s₀ = ap (take e.start) w ∙ take-append-le e.start s₀ r h in
    let b : drop e.end s ≡ drop e.end s₀ ++ r = ap (drop e.end) w ∙ drop-append-le e.end s₀ r k in
    ap script ((λ i. a i ++ n ++ b i) ∙ sym (append_assoc (take e.start s₀ ++ n) (drop e.end s₀) r))
    ∙ script_behind (replaced s₀ e n) s (replaced_no_zero s₀ e n (script_no_zero s) z)

-- THE LAW, for any script: no zero byte in the new text alone
pub amend_law_any : (E : Edition) (l : Lists) (s n : List ℕ) (es es' ns : List Entry) (e : Entry) → T (no_zero n) → read_script E l s ≡ accepted (es ++ (e ∷ es')) → read_script E l n ≡ accepted ns → T (ends_well n)
    → length (replaced (script s) e n) ≤ most_bytes → tokens_of (es ++ (ns ++ es')) ≤ most_tokens → read_script E l (replaced s e n) ≡ accepted (amended_list es e es' (length n) ns)
amend_law_any E l s n es es' ns e z hs hn w b t =
    let h : read_script E l (script s) ≡ accepted (es ++ (e ∷ es')) = read_script_lem E l s ∙ hs in
    let A : Accepted E l (script s) (es ++ (e ∷ es')) = read_accepted E l (script s) (es ++ (e ∷ es')) (script_no_zero s) h in
    let C : Cut (language E l) (script s) es e es' = cut_at (language E l) es e es' A.text in
    sym (read_script_lem E l (replaced s e n))
    ∙ ap (read_script E l) (script_replaced s e n (omega (arith, C.order, C.inside)) C.inside z)
    ∙ amend_law E l (script s) n es es' ns e (append_every (other 0) (script s) n (script_no_zero s) z) h hn w b t
