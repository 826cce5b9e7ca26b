pub mod UrlPath
pub mod SiteMap
pub mod Targets
pub mod Edits
pub mod Reading
pub mod SiteRoot
pub mod Rewriter
pub mod Site
