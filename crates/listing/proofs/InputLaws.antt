-- What reads of known bytes bring, and what it tells of an input.
use Rattle.std.proofs.Common.{◌≡◌, ℕ, ◌+◌, ◌≤◌, List, ◌++◌, length, take, drop, None, Some, IfSome, refl, sym, ap, ◌∙◌, subst, Bool, true, false, ltb, arith, le_refl, drop_at, length-take-le, take_all, append-nil, append_assoc}
use Rattle.std.specs.Prelude.{Option}
use Rattle.std.specs.Io.KnownBytes.{Consumes}
use Rattle.std.proofs.lemmas.Slice.{take-put_mid_below}
use borrow.Author.Tests.{ltb-true, ltb-false}
use borrow.Rule.Slice.PartMut.{put_mid, post_of}
use lib.Seq.{take-add, take-append-le, take-append_seam}
use Rattle.listing.specs.Inputs.{Takes}

-- what is read one after the other is read together
consumed_both : (a b c : Option (List ℕ)) (xs ys : List ℕ) → Consumes a b xs → Consumes b c ys → Consumes a c (xs ++ ys)
consumed_both None b c xs ys p q = tt
consumed_both (Some x) None c xs ys p q = absurd p
consumed_both (Some x) (Some y) None xs ys p q = absurd q
consumed_both (Some x) (Some y) (Some z) xs ys p q = p ∙ ap (λ l. xs ++ l) q ∙ sym (append_assoc xs ys z)

-- what is read into the room behind the first n bytes stands behind them
pub consumed_behind : (a b c : Option (List ℕ)) (n k room : ℕ) (xs ys : List ℕ) → n ≤ length xs → k ≤ length ys → Consumes a b (take n xs) → Consumes b c (take k ys)
    → Consumes a c (take (n + k) (put_mid n room xs ys))
consumed_behind a b c n k room xs ys within fits p q =
    let front = take-put_mid_below n room xs ys n (le_refl n) within in
    let rest = ap (take k) (drop_at (take n xs) (ys ++ post_of n room xs) n (length-take-le n xs within)) ∙ take-append-le k ys (post_of n room xs) fits in
    let both : take (n + k) (put_mid n room xs ys) ≡ take n xs ++ take k ys =
    take-add n k (put_mid n room xs ys) ∙ ap (λ l. l ++ take k (drop n (put_mid n room xs ys))) front ∙ ap (λ l. take n xs ++ l) rest in
    subst (Consumes a c) (sym both) (consumed_both a b c (take n xs) (take k ys) p q)

-- what is taken into 16,385 bytes of room is the first 16,385 bytes, or all if they are fewer
taken_first : (x y : List ℕ) (n : ℕ) (o : List ℕ) → length o ≡ 16385 → n ≤ length o → Takes (Some x) (Some y) n o → take 16385 x ≡ take n o
taken_first x y n o room within h = ap (take 16385) h.0 ∙ go (ltb n (length o)) refl
  where
    go : (t : Bool) → ltb n (length o) ≡ t → take 16385 (take n o ++ y) ≡ take n o
    go true e =
        let none = h.1 (ltb-true n (length o) e) in
        ap (λ l. take 16385 (take n o ++ l)) none ∙ ap (take 16385) (append-nil (take n o))
        ∙ take_all 16385 (take n o) (omega (arith, length-take-le n o within))
    go false e =
        let all : 16385 ≡ length (take n o) = omega (arith, length-take-le n o within, ltb-false n (length o) e) in
        ap (λ k. take k (take n o ++ y)) all ∙ take-append_seam (take n o) y

-- so what holds of every input that begins with what came holds of the one that is known
pub told : (a b : Option (List ℕ)) (n : ℕ) (o : List ℕ) (P : List ℕ → Type 0) → length o ≡ 16385 → n ≤ length o → Takes a b n o
    → ((input : List ℕ) → take 16385 input ≡ take n o → P input) → IfSome a P
told None b n o P room within h p = tt
told (Some x) None n o P room within h p = absurd h.0
told (Some x) (Some y) n o P room within h p = p x (taken_first x y n o room within h)
