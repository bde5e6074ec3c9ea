-- `perform` is the book's step, call by call.
-- Assumes nothing.
use mathlib.Core.Path.{refl}
use Rattle.rules.specs.Calls.{Tables, tables_of}
use Rattle.rules.proofs.InOrder.{release_ok, fresh_ok, mapped_ok, record_ok}
use Rattle.drain.proofs.Lent.{drain_ok}
use Rattle.book.proofs.Steps.{did_request, did_release, did_rebind, did_install, did_clear, did_fresh, did_keep, did_set, did_drain_lem}
use Rattle.book.proofs.perform.Goals as goal

pub release-requires : goal.release-requires
release-requires c = (release_ok _ _ c.requires.0, c.requires.1)

pub rebind_at-requires : goal.rebind_at-requires
rebind_at-requires c = record_ok _ _ _ (mapped_ok _ _ c.requires.0)

pub install_at-requires : goal.install_at-requires
install_at-requires c = mapped_ok _ _ c.requires.0

pub clear_at-requires : goal.clear_at-requires
clear_at-requires c = record_ok _ _ _ (mapped_ok _ _ c.requires.0)

pub fresh-requires : goal.fresh-requires
fresh-requires c = fresh_ok _ _ (release_ok _ _ c.requires.0)

pub keep-requires : goal.keep-requires
keep-requires c = mapped_ok _ _ c.requires.0

pub set-requires : goal.set-requires
set-requires c = mapped_ok _ _ c.requires.0

pub returns-in-Request : goal.returns-in-Request
returns-in-Request c = record {
  did = λ x s. did_request _ _ _ _ _ _ _ x s c.in-Request.is c.request.ensures.did;
  kept = c.request.ensures.kept;
}

pub returns-in-Release : goal.returns-in-Release
returns-in-Release c = record {
  did = λ x s. did_release _ _ _ _ _ _ _ x s c.in-Release.is c.release.ensures.did;
  kept = c.release.ensures.kept;
}

pub returns-in-Rebind : goal.returns-in-Rebind
returns-in-Rebind c = let tables : Tables = tables_of c.args.pages.now c.args.jobs.now c.args.free.now c.args.maps.now in
    record {
      did = λ x s. did_rebind _ tables _ _ _ _ _ x s c.in-Rebind.is (c.rebind_at.ensures tables);
      kept = c.requires.1;
    }

pub returns-in-Install : goal.returns-in-Install
returns-in-Install c = let tables : Tables = tables_of c.args.pages.now c.args.jobs.now c.args.free.now c.args.maps.now in
    record {
      did = λ x s. did_install _ tables _ _ _ _ _ x s _ c.in-Install.is refl refl refl refl refl
          (λ p q. c.install_at.ensures tables p q);
      kept = c.requires.1;
    }

pub returns-in-Clear : goal.returns-in-Clear
returns-in-Clear c = let tables : Tables = tables_of c.args.pages.now c.args.jobs.now c.args.free.now c.args.maps.now in
    record {
      did = λ x s. did_clear _ tables _ _ _ _ _ x s c.in-Clear.is (c.clear_at.ensures tables);
      kept = c.requires.1;
    }

pub returns-in-Fresh : goal.returns-in-Fresh
returns-in-Fresh c = let tables : Tables = tables_of c.args.pages.now c.args.jobs.now c.args.free.now c.args.maps.now in
    record {
      did = λ x s. did_fresh _ tables _ _ _ _ _ x s c.in-Fresh.is (c.fresh.ensures.did tables);
      kept = c.fresh.ensures.kept;
    }

pub returns-in-Keep : goal.returns-in-Keep
returns-in-Keep c = let tables : Tables = tables_of c.args.pages.now c.args.jobs.now c.args.free.now c.args.maps.now in
    record {
      did = λ x s. did_keep _ tables _ _ _ _ _ x s c.in-Keep.is (λ l n. c.keep.ensures tables l n);
      kept = c.requires.1;
    }

pub returns-in-SetMap : goal.returns-in-SetMap
returns-in-SetMap c = let tables : Tables = tables_of c.args.pages.now c.args.jobs.now c.args.free.now c.args.maps.now in
    record {
      did = λ x s. did_set _ tables _ _ _ _ _ x s c.in-SetMap.is (λ l n. c.set.ensures tables l n);
      kept = c.requires.1;
    }

pub drain_node-requires : goal.drain_node-requires
drain_node-requires c = (drain_ok _ _ c.requires.0, c.requires.1)

pub returns-in-Drain : goal.returns-in-Drain
returns-in-Drain c = record {
  did = λ x s. did_drain_lem _ _ _ _ _ _ _ x s c.in-Drain.is c.drain_node.ensures.did;
  kept = c.drain_node.ensures.kept;
}
