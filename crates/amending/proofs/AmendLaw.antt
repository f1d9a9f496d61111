-- The law of amending: a statement's text is replaced by another text, and the script reads as its statements before it, those of the new text, and those behind it.
use mathlib.Core.Path.{◌≡◌, refl, sym, ap, ◌∙◌, subst}
use mathlib.Core.Bool.{Bool}
use mathlib.Core.List.{List, [], ◌∷◌, ◌++◌, append_assoc, map, map-append}
use Prim.Native.Nat.{ℕ, ◌+◌, ◌-◌, ◌≤◌, ◌<◌}
use native.Mathlib.Omega.{arith}
use lib.Dec.{T}
use lib.Seq.{length-take-le}
use lib.ListN.{length, take, drop, take-append-drop}
use Rattle.tokens.specs.Limits.{most_bytes, most_tokens}
use Rattle.tokens.specs.Text.{every, other}
use Rattle.tokens.specs.Names.{Lists}
use Rattle.tokens.specs.Tokens.{Lexed}
use Rattle.grammar.specs.Grammar.{Edition, Language}
use Rattle.grammar.specs.Script.{Entry, accepted, language, read_script, moved_entry, tokens_of, no_zero}
use Rattle.grammar.proofs.AmendBytes.{Text, Fore, join, Cut, cut_at, fore_ended, text_same, every_append, append_every, Accepted, read_accepted, accepted_read, tokens_append, tokens_moved}
use Rattle.amending.specs.Amend.{well_ended, ends_well, replaced, between, amended_list, AmendLaw}

module _ (W : Language) where
  -- ---- amending, limits aside

  -- the new text, where 18 does not refuse it, has its statements whatever stands behind
  pub fore_text : {n : List ℕ} {ns : List Entry} → Text W n ns → T (ends_well n) → Fore W n ns
  unfolding ends_well
  fore_text {n} X h = fore_ended W X (subst (λ (o : Lexed). T (well_ended n o)) X.scanned h)

  between_moved : (a n b : ℕ) → a < b → (zs : List Entry) → map (moved_entry a) (map (moved_entry n) zs) ≡ map (between n (b - a)) (map (moved_entry b) zs)
  between_moved a n b h [] = refl
  between_moved a n b h (z ∷ zs) =
      let p : z.start + n + a ≡ z.start + b + n - (b - a) = omega arith in
      let q : z.end + n + a ≡ z.end + b + n - (b - a) = omega arith in
      λ i. record { start = p i; end = q i; tree = z.tree; tokens = z.tokens } ∷ between_moved a n b h zs i

  pub amend_text : {s n : List ℕ} (es : List Entry) (e : Entry) (es' : List Entry) {ns : List Entry} → Text W s (es ++ (e ∷ es')) → Text W n ns → T (ends_well n)
      → Text W (replaced s e n) (amended_list es e es' (length n) ns)
  amend_text {s} {n} es e es' {ns} X Y h =
      let C : Cut W s es e es' = cut_at W es e es' X in
      let J : Text W (take e.start s ++ (n ++ drop e.end s)) (es ++ map (moved_entry (length (take e.start s))) (ns ++ map (moved_entry (length n)) C.others))
      = join W C.fore (join W (fore_text Y h) C.aft) in
      let l : length (take e.start s) ≡ e.start = length-take-le e.start s (omega (arith, C.order, C.inside)) in
      let w : es ++ map (moved_entry (length (take e.start s))) (ns ++ map (moved_entry (length n)) C.others) ≡ amended_list es e es' (length n) ns
      = ap (λ (i : ℕ). es ++ map (moved_entry i) (ns ++ map (moved_entry (length n)) C.others)) l
      ∙ ap (λ (x : List Entry). es ++ x) (map-append (moved_entry e.start) ns (map (moved_entry (length n)) C.others)
      ∙ ap (λ (x : List Entry). map (moved_entry e.start) ns ++ x) (between_moved e.start (length n) e.end C.order C.others ∙ ap (map (between (length n) (e.end - e.start))) C.same)) in
      subst (λ (b : List ℕ). Text W b (amended_list es e es' (length n) ns)) (sym (append_assoc (take e.start s) n (drop e.end s))) (subst (λ (x : List Entry). Text W (take e.start s ++ (n ++ drop e.end s)) x) w J)

-- ---- with the limits

pub replaced_no_zero : (s : List ℕ) (e : Entry) (n : List ℕ) → T (no_zero s) → T (no_zero n) → T (no_zero (replaced s e n))
replaced_no_zero s e n h k =
    let f : ℕ → Bool = other 0 in
    append_every f (take e.start s ++ n) (drop e.end s)
    (append_every f (take e.start s) n (every_append f (take e.start s) (drop e.start s) (subst (λ (l : List ℕ). T (every f l)) (sym (take-append-drop e.start s)) h)).0 k)
    (every_append f (take e.end s) (drop e.end s) (subst (λ (l : List ℕ). T (every f l)) (sym (take-append-drop e.end s)) h)).1

tokens_between : (a b : ℕ) (x : List Entry) → tokens_of (map (between a b) x) ≡ tokens_of x
tokens_between a b [] = refl
tokens_between a b (e ∷ x) = ap (λ (n : ℕ). e.tokens + n) (tokens_between a b x)

pub tokens_amended : (es : List Entry) (e : Entry) (es' : List Entry) (n : ℕ) (ns : List Entry) → tokens_of (amended_list es e es' n ns) ≡ tokens_of (es ++ (ns ++ es'))
tokens_amended es e es' n ns =
    tokens_append es (map (moved_entry e.start) ns ++ map (between n (e.end - e.start)) es')
    ∙ ap (λ (k : ℕ). tokens_of es + k) (tokens_append (map (moved_entry e.start) ns) (map (between n (e.end - e.start)) es')
    ∙ (λ i. tokens_moved e.start ns i + tokens_between n (e.end - e.start) es' i) ∙ sym (tokens_append ns es'))
    ∙ sym (tokens_append es (ns ++ es'))

-- THE LAW: a script with the statements es, e, es', and in place of e's text a text n that is not refused by 1 to 15, 18 or 19, and the totals of bytes and tokens within the limits
pub amend_law : AmendLaw
amend_law E l s n es es' ns e z hs hn w b t =
    let zs : T (no_zero s) × T (no_zero n) = every_append (other 0) s n z in
    let S : Accepted E l s (es ++ (e ∷ es')) = read_accepted E l s (es ++ (e ∷ es')) zs.0 hs in
    let N : Accepted E l n ns = read_accepted E l n ns zs.1 hn in
    accepted_read E l (replaced s e n) (amended_list es e es' (length n) ns) (replaced_no_zero s e n zs.0 zs.1) (record {
      short = b;
      lists = S.lists;
      text = amend_text (language E l) es e es' S.text N.text w;
      few = omega (arith, tokens_amended es e es' (length n) ns);
    })

-- and the limits are the only ground: where the whole is read, the statements are these, and the totals are within the limits
pub amend_exact : (E : Edition) (l : Lists) (s n : List ℕ) (es es' ns xs : List Entry) (e : Entry) → T (no_zero (s ++ n)) → read_script E l s ≡ accepted (es ++ (e ∷ es')) → read_script E l n ≡ accepted ns → T (ends_well n)
    → read_script E l (replaced s e n) ≡ accepted xs
    → (xs ≡ amended_list es e es' (length n) ns) × (length (replaced s e n) ≤ most_bytes) × (tokens_of (es ++ (ns ++ es')) ≤ most_tokens)
amend_exact E l s n es es' ns xs e z hs hn w h =
    let zs : T (no_zero s) × T (no_zero n) = every_append (other 0) s n z in
    let S : Accepted E l s (es ++ (e ∷ es')) = read_accepted E l s (es ++ (e ∷ es')) zs.0 hs in
    let N : Accepted E l n ns = read_accepted E l n ns zs.1 hn in
    let A : Accepted E l (replaced s e n) xs = read_accepted E l (replaced s e n) xs (replaced_no_zero s e n zs.0 zs.1) h in
    let q : xs ≡ amended_list es e es' (length n) ns = text_same (language E l) A.text (amend_text (language E l) es e es' S.text N.text w) in
    (q, A.short, omega (arith, A.few, ap tokens_of q, tokens_amended es e es' (length n) ns))
