-- What came stands at the start of memory, and its listing is that of every input that begins so.
use Rattle.std.proofs.Common.{◌≡◌, ℕ, List, take, sym, ap, ◌∙◌, rules, length-take-le}
use Rattle.listing.specs.Listing.{listing}
use Rattle.listing.specs.Lines.{Appended}
use Rattle.listing.specs.Inputs.{IsPrefixLen, Lists}
use Rattle.listing.proofs.LineLaws.{appended_in}
use Rattle.listing.proofs.CutLaws.{listing_cut}
use Rattle.listing.proofs.InputLaws.{told}
use Rattle.listing.proofs.list_input.Goals as goal

lists : {n k : ℕ} (s o t : List ℕ) → IsPrefixLen n s → Appended o 0 (listing (take n s)) k t → Lists n k s t
lists s o t h x = record {
  came = h;
  size = (appended_in x, sym (length-take-le _ t (appended_in x)));
  lines = λ input e. x.bytes ∙ (ap listing (sym e) ∙ listing_cut input);
}

pub returns-clause-lists : goal.returns-clause-lists
returns-clause-lists g c = lists _ _ _ c.in_ok-came.ensures.within c.list-lines.ensures

pub returns-clause-known : goal.returns-clause-known
returns-clause-known g c =
    let l = lists c.take_input.new.out c.args.text.now c.list-lines.new.out c.in_ok-came.ensures.within c.list-lines.ensures in
    told _ _ c.in_ok-came.came c.take_input.new.out (λ input. take c.list-lines.result c.list-lines.new.out ≡ listing input) (search rules) l.came.0 c.in_ok-came.ensures.taken l.lines
