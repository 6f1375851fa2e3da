use Rattle.std.proofs.Common.{[], ◌∷◌, None, inl, refl, sym, subst}
use Rattle.resp_text.specs.Grammar.{IsUnfinished}
use Rattle.resp_text.proofs.requests.Requests.new.Goals as goal

pub returns-clause-stands : goal.returns-clause-stands
returns-clause-stands c = record {
  whole = [];
  is = sym c.new-2.ensures.items;
  stream = ([], refl, c.new.ensures);
  before = refl;
  unfinished = subst IsUnfinished (sym c.new-2.ensures.items) (
    42,
    48 ∷ 13 ∷ 10 ∷ [],
    (None, inl refl),
  );
}

pub returns-clause-unfed : goal.returns-clause-unfed
returns-clause-unfed c = returns-clause-stands c
