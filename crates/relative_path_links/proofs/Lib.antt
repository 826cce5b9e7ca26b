pub mod UrlPathLemmas
pub mod SiteMapLemmas
pub mod TargetsLemmas
pub mod EditsLemmas
pub mod WrittenLemmas
pub mod SiteRootLemmas
pub mod RewriterLemmas
pub mod SiteLemmas
